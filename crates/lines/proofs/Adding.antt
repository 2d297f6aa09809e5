-- Laws of bytes added to a sheet, one part after another.
-- Assumes nothing.
use Prim.Native.Nat.{ℕ, ◌+◌, ◌≤◌}
use mathlib.Core.Path.{◌≡◌, refl, ap, sym, ◌∙◌}
use mathlib.Core.List.{List, [], ◌++◌, append_assoc, append-nil}
use native.Mathlib.Omega.{arith}
use lib.ListN.{length, take, length-append}
use lib.Seq.{length-take-le}
use Rattle.lines.specs.Added.{Added}

-- Nothing is added.
pub none_added : (at : ℕ) (before : List ℕ) → at ≤ length before → Added at at 0 before [] before
none_added at before h =
    record { few = omega arith; room = refl; size = sym (length-take-le at before h); holds = sym (append-nil (take at before)) }

-- One part is added, then another.
pub then_added : {r s at m n : ℕ} {before between after a b : List ℕ} →
    Added r at m before a between → Added s r n between b after → Added s at (m + n) before (a ++ b) after
then_added {at = at} {before = before} {a = a} {b = b} p q = record {
  few = omega (arith, p.few, q.few);
  room = q.room ∙ p.room;
  size = q.size;
  holds = q.holds ∙ (ap (λ (l : List ℕ). l ++ b) p.holds ∙ append_assoc (take at before) a b);
}

-- The same bytes by another name, in more room.
pub same_added : {r at m n : ℕ} {before after a b : List ℕ} → m ≤ n → a ≡ b → Added r at m before a after → Added r at n before b after
same_added {at = at} {before = before} h e p = record {
  few = omega (arith, h, p.few);
  room = p.room;
  size = p.size;
  holds = p.holds ∙ ap (λ (l : List ℕ). take at before ++ l) e;
}

-- So many bytes are added as there are.
pub fewer_added : {r at m n : ℕ} {before bytes after : List ℕ} → at ≤ length before → length bytes ≤ n →
    Added r at m before bytes after → Added r at n before bytes after
fewer_added {at = at} {before = before} {bytes = bytes} h l p = record {
  few = omega (arith, p.size, ap length p.holds, length-append (take at before) bytes, length-take-le at before h, l);
  room = p.room;
  size = p.size;
  holds = p.holds;
}
