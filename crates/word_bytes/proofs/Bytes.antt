-- Laws of the bytes of words: a word from its four bytes, and a word whose bytes stay.
-- Assumes nothing.
use Prim.Native.Nat.{ℕ, ◌+◌, ◌*◌, ◌/◌, ◌%◌, ◌≤◌, ◌<◌}
use mathlib.Core.Path.{◌≡◌}
use mathlib.Core.List.{List}
use native.Mathlib.Omega.{arith}
use native.Mathlib.Nat.{mod-add-div'}
use lib.ListN.{get_or}
use Rattle.input.specs.Input.{word_at}

-- A word's four bytes make it.
pub four_bytes : (w : ℕ) → w < 4294967296 →
    w % 256 + 256 * (w / 256 % 256) + 65536 * (w / 256 / 256 % 256) + 16777216 * (w / 256 / 256 / 256 % 256) ≡ w
four_bytes w h =
    omega (
      arith,
      mod-add-div' w 256,
      mod-add-div' (w / 256) 256,
      mod-add-div' (w / 256 / 256) 256,
      mod-add-div' (w / 256 / 256 / 256) 256,
    )

-- A word stays if the bytes up to its end do.
pub word_kept : (before after : List ℕ) (n at : ℕ) → at + 4 ≤ n → ((i : ℕ) → i < n → get_or after i 0 ≡ get_or before i 0) →
    word_at after at ≡ word_at before at
word_kept before after n at h kept =
    rw (kept at (omega arith), kept (at + 1) (omega arith), kept (at + 2) (omega arith), kept (at + 3) (omega arith))
