-- The rule of each profile: its clash goes both ways, goes by dues and second numbers, and rows of which no two clash keep the rule.
-- Assumes nothing.
use Prim.Native.Nat.{ℕ, ◌+◌, ◌≤◌, ◌<◌}
use native.Mathlib.Omega.{arith}
use mathlib.Core.Bool.{Bool, true, false, ◌&&◌, and_comm, or_comm}
use mathlib.Core.Path.{◌≡◌, refl, sym, ap, ◌∙◌}
use mathlib.Core.List.{List}
use lib.Dec.{ltb}
use lib.Signed.{lt_z}
use borrow.Author.Tests.{ltb-true, ltb-false, le-ltb, lt-ltb}
use Rattle.schedule.specs.Limits.{latest_minute, longest_time, latest_due}
use Rattle.schedule.specs.declared.Row.{Row}
use Rattle.schedule.specs.declared.Profile.{Profile}
use Rattle.schedule.specs.declared.Profile.TheVariants.{Ordering, FirstCome}
use Rattle.schedule.specs.Rows.{row, job_of, job, all_rows}
use Rattle.schedule.specs.Profiles.{Obeys}
use Rattle.schedule.proofs.Tests.{neither}
use Rattle.refusals.proofs.Tests.{never}
use Rattle.pairs.specs.Columns.{pair_clashes}
use Rattle.pairs.specs.Clashes.{Mutual, NoneClash}
use Rattle.rows.specs.InColumns.{Within}
use Rattle.readers.specs.Rules.{spare, tighter, disagree, outlasts, cross, clash_by}
use Rattle.readers.specs.Seconds.{second_by}
use Rattle.readers.proofs.Signed.{lt_z_sums, ltb_same}

and_then : (a b : Bool) → a ≡ true → (a && b) ≡ false → b ≡ false
and_then true b h e = e
and_then false b h e = never (cc)

-- To disagree, and to cross, goes both ways, and no row does with itself.
pub clash_mutual : (profile : Profile) → Mutual (clash_by profile)
unfolding clash_by disagree tighter cross outlasts
clash_mutual Ordering =
    record { swap = λ r s. or_comm (tighter r s) (tighter s r); self = λ r. rw (le-ltb r.due r.due (omega arith)) }
clash_mutual FirstCome =
    record { swap = λ r s. or_comm (outlasts r s) (outlasts s r); self = λ r. rw (le-ltb r.release r.release (omega arith)) }

-- The limits of a row: those of a book keep them.
abbrev pub Limited : Row → Type 0
Limited r = Within latest_minute longest_time latest_due (job_of r)

abbrev second : Profile → Row → ℕ
second profile r = second_by profile (job_of r)

-- Raised spares compare as the signed ones do, and the time before the latest minute the other way round than releases do.
raised_tighter : (r s : Row) → Limited r → Limited s → tighter r s ≡ (ltb r.due s.due && ltb (second Ordering r) (second Ordering s))
unfolding tighter second_by
raised_tighter r s h k =
    rw (lt_z_sums r.due (r.release + r.length) s.due (s.release + s.length))
    (ap (λ (b : Bool). ltb r.due s.due && b)
    (ltb_same (r.due + (s.release + s.length)) (s.due + (r.release + r.length)) (second Ordering r) (second Ordering s)
    (λ l. omega arith) (λ l. omega arith)))

turned_outlasts : (r s : Row) → Limited r → Limited s → outlasts r
    s ≡ (ltb s.due r.due && ltb (second FirstCome s) (second FirstCome r))
unfolding outlasts second_by
turned_outlasts r s h k =
    rw (ltb_same r.release s.release (second FirstCome s) (second FirstCome r) (λ l. omega arith) (λ l. omega arith))
    (and_comm (ltb (second FirstCome s) (second FirstCome r)) (ltb s.due r.due))

pub clash_by_lem : (profile : Profile) (r s : Row) → Limited r → Limited s →
    clash_by profile r s ≡ pair_clashes r.due (second profile r) s.due (second profile s)
unfolding clash_by disagree cross
clash_by_lem Ordering r s h k = rw (raised_tighter r s h k, raised_tighter s r k h)
clash_by_lem FirstCome r s h k = or_comm (outlasts r s) (outlasts s r) ∙ rw (turned_outlasts s r k h, turned_outlasts r s h k)

-- Rows that do not disagree: the one due later has no more spare. Rows that do not cross: the one released later is due no earlier.
agrees : (r s : Row) → disagree r s ≡ false → r.due < s.due → r.release + r.length + s.due ≤ s.release + s.length + r.due
unfolding disagree tighter
agrees r s e l =
    let n = (neither (tighter r s) (tighter s r) e).0 in
    let z = sym (lt_z_sums r.due (r.release + r.length) s.due (s.release + s.length))
    ∙ and_then (ltb r.due s.due) (lt_z (spare r) (spare s)) (lt-ltb r.due s.due l) n in
    let m = ltb-false (r.due + (s.release + s.length)) (s.due + (r.release + r.length)) z in
    omega arith

uncrossed : (r s : Row) → cross r s ≡ false → r.release < s.release → r.due ≤ s.due
unfolding cross outlasts
uncrossed r s e l =
    ltb-false s.due r.due
    (and_then (ltb r.release s.release) (ltb s.due r.due) (lt-ltb r.release s.release l)
    (neither (outlasts r s) (outlasts s r) e).0)

pub obeys : (profile : Profile) (rows : List Row) → NoneClash (clash_by profile) rows → Obeys profile (job rows) (all_rows rows)
unfolding clash_by
obeys Ordering rows h = λ i j m n. agrees (row rows i) (row rows j) (h i j m n)
obeys FirstCome rows h = λ i j m n. uncrossed (row rows i) (row rows j) (h i j m n)

-- And back: rows that keep the rule do not clash.
not_tighter : (r s : Row) → (r.due < s.due → r.release + r.length + s.due ≤ s.release + s.length + r.due) → tighter r s ≡ false
unfolding tighter
not_tighter r s h = step (ltb r.due s.due) refl
  where
    step : (b : Bool) → ltb r.due s.due ≡ b → (ltb r.due s.due && lt_z (spare r) (spare s)) ≡ false
    step true e =
        let g = h (ltb-true r.due s.due e) in
        rw (
          e,
          lt_z_sums r.due (r.release + r.length) s.due (s.release + s.length),
          le-ltb (r.due + (s.release + s.length)) (s.due + (r.release + r.length)) (omega arith),
        )
    step false e = rw e

not_outlasts : (r s : Row) → (r.release < s.release → r.due ≤ s.due) → outlasts r s ≡ false
unfolding outlasts
not_outlasts r s h = step (ltb r.release s.release) refl
  where
    step : (b : Bool) → ltb r.release s.release ≡ b → (ltb r.release s.release && ltb s.due r.due) ≡ false
    step true e = rw (e, le-ltb s.due r.due (h (ltb-true r.release s.release e)))
    step false e = rw e

pub none_clashes : (profile : Profile) (rows : List Row) → Obeys profile (job rows) (all_rows rows) → NoneClash (clash_by profile) rows
unfolding clash_by disagree cross
none_clashes Ordering rows h i j m n =
    rw (not_tighter (row rows i) (row rows j) (h i j m n), not_tighter (row rows j) (row rows i) (h j i n m))
none_clashes FirstCome rows h i j m n =
    rw (not_outlasts (row rows i) (row rows j) (h i j m n), not_outlasts (row rows j) (row rows i) (h j i n m))
