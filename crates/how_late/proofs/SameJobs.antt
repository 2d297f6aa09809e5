-- Jobs that are the same on the rows 1 to n have the same latest free minute and order. Assumes nothing.
use Prim.Native.Nat.{ℕ}
use mathlib.Core.Path.{◌≡◌, refl, sym, ◌∙◌, subst}
use mathlib.Core.List.{Memᴰ}
use mathlib.Core.Option.{Option, none, some}
use lib.IntN.{ℤ, pos}
use lib.Signed.{◌≤ℤ◌}
use Rattle.theory.specs.Jobs.{Job}
use Rattle.schedule.specs.declared.Profile.TheVariants.{Ordering}
use Rattle.schedule.specs.Rows.{count_from}
use Rattle.schedule.specs.Desk.{Pair, pair_of}
use Rattle.schedule.specs.Profiles.{order_by}
use Rattle.schedule.proofs.Orders.{perm_all}
use Rattle.schedule.proofs.SameJobs.{same_pair, same_order}
use Rattle.how_late.specs.Latest.{from_free, latest_free, latest_order, Allowed}
use Rattle.how_late.proofs.Latest.{how_late}

module _ (n : ℕ) (end late : ℤ) where
  abbrev Same : (ℕ → Job) → (ℕ → Job) → Type 0
  Same job job' = (i : ℕ) → Memᴰ i (count_from 1 n) → job i ≡ job' i

  allowed_too : (job job' : ℕ → Job) → Same job job' → (t : ℕ) → Allowed job (count_from 1 n) end late t →
      Allowed job' (count_from 1 n) end late t
  allowed_too job job' same t a =
      let k = a.1 in
      let e : pair_of job t a.0 ≡ pair_of job' t a.0 =
      same_pair job job' t a.0 (perm_all (λ i. job i ≡ job' i) k.whole same) in (
        a.0,
        record {
          whole = k.whole;
          ends = subst (λ (p : Pair). pos p.end ≤ℤ end) e k.ends;
          lates = subst (λ (p : Pair). p.late ≤ℤ late) e k.lates;
        },
      )

  module _ (job job' : ℕ → Job) (same : Same job job') where
    back : Same job' job
    back i m = sym (same i m)

    free_same : latest_free job (count_from 1 n) end late ≡ latest_free job' (count_from 1 n) end late
    free_same = step (latest_free job (count_from 1 n) end late) refl
      where
        step : (x : Option ℕ) → latest_free job (count_from 1 n) end late ≡ x →
            latest_free job (count_from 1 n) end late ≡ latest_free job' (count_from 1 n) end late
        step none e =
            e ∙ sym ((how_late job' (count_from 1 n) end late).0.unreachable.1
            (λ a. (how_late job (count_from 1 n) end late).0.unreachable.0 e (allowed_too job' job back 0 a)))
        step (some t) e =
            let l = ((how_late job (count_from 1 n) end late).0.found t).0 e in
            e ∙ sym (((how_late job' (count_from 1 n) end late).0.found t).1 (record {
              in_range = l.in_range;
              exactly = λ s h. (
                λ a. (l.exactly s h).0 (allowed_too job' job back s a),
                λ g. allowed_too job job' same s ((l.exactly s h).1 g),
              );
            }))

    pub order_same : latest_order job (count_from 1 n) end late ≡ latest_order job' (count_from 1 n) end late
    unfolding order_by
    order_same = λ x. from_free (λ t. same_order job job' n same Ordering t late x) (free_same x)
