-- Property 1 of the calls: buffers kept on refusal, and buffers of the same length.
-- Assumes nothing.
use Prim.Native.Nat.{ℕ, ◌*◌, ◌≤◌}
use native.Mathlib.Omega.{arith}
use native.Mathlib.Decide.{dec_le}
use mathlib.Core.Path.{◌≡◌, refl}
use mathlib.Core.List.{List}
use mathlib.Core.Option.{Option, none, some}
use lib.ListN.{length, length-append, length-drop}
use lib.IntN.{ℤ}
use Rattle.schedule.specs.Desk.{Pair, pair_of}
use Rattle.schedule.proofs.Orders.{perm_count}
use Rattle.results.specs.Results.{written, plan_words}
use Rattle.results.proofs.ResultWords.{plan_length}
use Rattle.outcomes.specs.Outcomes.{list_outcome, order_outcome, plan_outcome}
use Rattle.outcomes.specs.Planning.{Outcome, gives, nth, Planning}
use Rattle.outcomes.proofs.Sound.{Sound}
use Rattle.outcomes.proofs.OutcomeLaws.{list_narrow, list_is, plan_is, plan_unlisted, order_narrow, order_some, order_none}
use Rattle.calls.specs.Answers.{Said, said_no, said_list, said_order}
use Rattle.promises.specs.Vocabulary.{told, said_count, said_pair}

-- What becomes of the buffer.
pub record Kept (b : List ℕ) (o : Outcome Said) : Type 0 where
  pub refused : 1 ≤ o.answer.number → o.buffer ≡ b
  pub same_length : length o.buffer ≡ length b

pub kept_no : {n p : ℕ} {b : List ℕ} → Kept b (gives (said_no n p) b)
kept_no = record { refused = λ h. refl; same_length = refl }

pub kept_yes : (said : Said) (ws b : List ℕ) → said.number ≡ 0 → length ws ≤ length b → Kept b (gives said (written ws b))
unfolding written
kept_yes said ws b e h = record {
  refused = λ l. let z : ⊥ = omega arith in absurd z;
  same_length = simp (length-append, length-drop) (omega arith);
}

module _ (g : Planning) (s : Sound g) where
  pub list_kept : (b : List ℕ) → Kept b (told said_list (list_outcome g b))
  list_kept b = step (dec_le (2 * length g.left) (length b))
    where
      few : length g.plans ≤ length g.left
      few = rw s.front s.promise.few.1

      step : Dec (2 * length g.left ≤ length b) → Kept b (told said_list (list_outcome g b))
      step (yes h) = rw (list_is g b h)
          (kept_yes (said_count (length g.plans)) (plan_words g.plans) b refl (omega (arith, plan_length g.plans, few)))
      step (no h) = rw (list_narrow g b (omega arith)) kept_no

  pub order_kept : (y : ℤ) (b : List ℕ) → Kept b (told said_order (order_outcome g y b))
  order_kept y b = step (dec_le (length g.left) (length b))
    where
      search : length g.left ≤ length b → (o : Option (List ℕ)) → g.orders y ≡ o → Kept b (told said_order (order_outcome g y b))
      search h none e = rw (order_none g y b h e) kept_no
      search h (some order) e =
          let k = (perm_count (s.promise.best y order e).0).0 in
          rw (order_some g y b h order e) (kept_yes (said_pair (pair_of g.job g.minute order)) order b refl (omega (arith, k)))

      step : Dec (length g.left ≤ length b) → Kept b (told said_order (order_outcome g y b))
      step (yes h) = search h (g.orders y) refl
      step (no h) = rw (order_narrow g y b (omega arith)) kept_no

  pub plan_kept : (k : ℕ) (b : List ℕ) → Kept b (told said_order (plan_outcome g k b))
  plan_kept k b = step (nth g.plans k) refl
    where
      step : (o : Option Pair) → nth g.plans k ≡ o → Kept b (told said_order (plan_outcome g k b))
      step none h = rw (plan_unlisted g k b h) kept_no
      step (some p) h = rw (plan_is g k p b h) (order_kept p.late b)
