-- The latest free minute: that it is what it says, and that the order for the wanted lateness tells it. Assumes nothing.
use Prim.Native.Nat.{ℕ, suc, ◌≤◌, ◌<◌}
use native.Mathlib.Omega.{arith}
use native.Mathlib.Decide.{dec_le}
use mathlib.Core.Bool.{Bool, true, false, ◌||◌}
use mathlib.Core.Path.{◌≡◌, refl, sym, ap, ◌∙◌, subst}
use mathlib.Core.List.Memᴰ
use mathlib.Core.List.{List, [], ◌∷◌, Memᴰ}
use mathlib.Core.Logic.{◌⊎◌, inl, inr, ◌↔◌}
use mathlib.Core.Option.{Option, none, some, some-injective, none-ne-some}
use lib.Dec.{T}
use lib.ListN.{length}
use lib.IntN.{ℤ, pos}
use lib.Signed.{le_z}
use Rattle.theory.specs.Jobs.{Job}
use Rattle.schedule.specs.Limits.{latest_minute}
use Rattle.schedule.specs.Desk.{Pair, end_of, pair_of}
use Rattle.schedule.specs.Picks.{order_for}
use Rattle.schedule.specs.Plans.{attained}
use Rattle.schedule.specs.Cover.{Agreeing, PlansPromise}
use Rattle.schedule.proofs.Signed.{le_z→, →le_z}
use Rattle.schedule.proofs.Tests.{both, parts, or_cases, or_left, or_right, is_true, true_is}
use Rattle.schedule.proofs.Best.{order_pair, pair_order}
use Rattle.schedule.proofs.LaterStart.{later_start}
use Rattle.schedule.proofs.Cover.{tried, whole, signed, promised}
use Rattle.how_late.specs.Latest.{meets, some_meets, OrderFrom, from_minute, from_free, allowed, latest_free, latest_order}
use Rattle.how_late.specs.Latest.{Allowed, LatestFree}
use Rattle.how_late.specs.Laws.{ends_by, in_time, HowLate}
use Rattle.how_late.proofs.Greatest.{Greatest, greatest_found, greatest_is, greatest_none, zero_fails}

-- # Some pair of a list has both numbers at most the wanted ones
meets_some : (end late : ℤ) (ps : List Pair) (p : Pair) → Memᴰ p ps → T (meets end late p) → T (some_meets end late ps)
unfolding some_meets
meets_some end late [] p m h = absurd (Memᴰ.not-nil m)
meets_some end late (q ∷ qs) p m h = step (Memᴰ.cases_cons m) (meets_some end late qs p)
  where
    step : (p ≡ q) ⊎ Memᴰ p qs → (Memᴰ p qs → T (meets end late p) → T (some_meets end late qs)) →
        T (meets end late q || some_meets end late qs)
    step (inl e) f = or_left (meets end late q) (some_meets end late qs) (subst (λ (r : Pair). T (meets end late r)) e h)
    step (inr n) f = or_right (meets end late q) (some_meets end late qs) (f n h)

some_meets_lem : (end late : ℤ) (ps : List Pair) → T (some_meets end late ps) → (p : Pair) × Memᴰ p ps × T (meets end late p)
unfolding some_meets
some_meets_lem end late [] h = absurd h
some_meets_lem end late (q ∷ qs) h = step (or_cases (meets end late q) (some_meets end late qs) h) (some_meets_lem end late qs)
  where
    step : T (meets end late q) ⊎ T (some_meets end late qs) →
        (T (some_meets end late qs) → (p : Pair) × Memᴰ p qs × T (meets end late p)) →
        (p : Pair) × Memᴰ p (q ∷ qs) × T (meets end late p)
    step (inl g) f = (q, Memᴰ.head refl, g)
    step (inr g) f = let u = f g in (u.0, Memᴰ.tail u.1, u.2)

module _ (job : ℕ → Job) (left : List ℕ) (end late : ℤ) where
  abbrev Allows : ℕ → Type 0
  Allows = Allowed job left end late

  -- # The test of a minute says that some order keeps both
  allowed_some : (t : ℕ) → T (allowed job left end late t) → Allows t
  unfolding allowed meets
  allowed_some t h =
      let u = some_meets_lem end late (attained job t left) h in
      let v = pair_order job t left u.0 u.1 in
      let w = parts (le_z (pos (pair_of job t v.0).end) end) (le_z (pair_of job t v.0).late late)
      (subst (λ (p : Pair). T (meets end late p)) (sym v.2) u.2) in
      (v.0, record { whole = whole left v.1; ends = record { le = w.0 }; lates = record { le = w.1 } })

  some_allowed : (t : ℕ) → Allows t → T (allowed job left end late t)
  unfolding allowed meets
  some_allowed t a =
      let k = a.1 in
      meets_some end late (attained job t left) (pair_of job t a.0) (order_pair job t left a.0 (tried left k.whole))
      (both (le_z (pos (end_of job t a.0)) end) (le_z (pair_of job t a.0).late late) k.ends.le k.lates.le)

  -- # A later start gains nothing
  earlier : (s t : ℕ) → s ≤ t → Allows t → Allows s
  earlier s t h a =
      let k = a.1 in
      let m = (later_start job s t h).orders a.0 in (
        a.0,
        record {
          whole = k.whole;
          ends = signed (omega (arith, le_z→ (pos (end_of job t a.0)) end k.ends.le, m.no_sooner));
          lates = signed (omega (
            arith,
            le_z→ (pair_of job t a.0).late late k.lates.le,
            le_z→ (pair_of job s a.0).late (pair_of job t a.0).late m.no_less_late.le,
          ));
        },
      )

  -- # The latest free minute is what it says
  found : (t : ℕ) → (latest_free job left end late ≡ some t) ↔ LatestFree job left end late t
  found t = (
    λ e. let g = greatest_is (allowed job left end late) latest_minute t e in
        record {
          in_range = g.within;
          exactly = λ s h. (
            λ a. not_after g s h a (dec_le s t),
            λ l. earlier s t l (allowed_some t g.passes),
          );
        },
    λ l. greatest_found (allowed job left end late) latest_minute t (record {
      within = l.in_range;
      passes = some_allowed t ((l.exactly t l.in_range).1 (omega arith));
      none_above = λ s g h p. let k = (l.exactly s h).0 (allowed_some s p) in omega (arith, k);
    }),
  )
    where
      not_after : Greatest (allowed job left end late) latest_minute t → (s : ℕ) → s ≤ latest_minute → Allows s → Dec (s ≤ t) → s ≤ t
      not_after g s h a (yes l) = l
      not_after g s h a (no l) = absurd (g.none_above s (omega arith) h (some_allowed s a))

  unreachable : (latest_free job left end late ≡ none) ↔ (¬ Allows 0)
  unreachable = (
    λ e a. zero_fails (allowed job left end late) latest_minute e (some_allowed 0 a),
    λ h. greatest_none (allowed job left end late) latest_minute (λ s l p. h (earlier 0 s (omega arith) (allowed_some s p))),
  )

  -- # The order from the latest free minute
  from_none : latest_free job left end late ≡ none → latest_order job left end late ≡ none
  from_none e = ap (from_free (λ t. order_for job t left late)) e

  from_some : (t : ℕ) → latest_free job left end late ≡ some t → (order : List ℕ) → order_for job t left late ≡ some order →
      latest_order job left end late ≡ some (record { minute = t; order = order })
  from_some t e order g = ap (from_free (λ t. order_for job t left late)) e ∙ ap (from_minute t) g

  -- # Rows that agree: the order for the wanted lateness decides a minute, since it ends soonest of those that keep it
  module _ (agreeing : Agreeing job left) (some_row : 0 < length left) where
    abbrev test : ℕ → Bool
    test = in_time job left end late

    three : (t : ℕ) → PlansPromise job t left (order_for job t left)
    three t = promised job t left agreeing some_row

    in_time_allowed : (t : ℕ) → T (test t) → Allows t
    in_time_allowed t h = step (order_for job t left late) refl h
      where
        step : (o : Option (List ℕ)) → order_for job t left late ≡ o → T (ends_by job end t o) → Allows t
        step none e k = absurd k
        step (some order) e k =
            let b = (three t).best late order e in
            (order, record { whole = b.0; ends = record { le = k }; lates = b.1 })

    allowed_in_time : (t : ℕ) → Allows t → T (test t)
    allowed_in_time t a = step (order_for job t left late) refl
      where
        step : (o : Option (List ℕ)) → order_for job t left late ≡ o → T (ends_by job end t o)
        step none e = absurd (((three t).unkept late).0 e a.0 a.1.whole a.1.lates)
        step (some order) e =
            →le_z (pos (end_of job t order)) end (omega (
              arith,
              ((three t).best late order e).2 a.0 a.1.whole a.1.lates,
              le_z→ (pos (end_of job t a.0)) end a.1.ends.le,
            ))

    next : (t : ℕ) → t ≤ latest_minute → test t ≡ true → (t < latest_minute → test (suc t) ≡ false) → latest_free job left end late ≡ some t
    next t h e f = (found t).1 (record {
      in_range = h;
      exactly = λ s k. (
        λ a. not_after s k a (dec_le s t),
        λ l. earlier s t l (in_time_allowed t (is_true (test t) e)),
      );
    })
      where
        not_after : (s : ℕ) → s ≤ latest_minute → Allows s → Dec (s ≤ t) → s ≤ t
        not_after s k a (yes l) = l
        not_after s k a (no l) = absurd (subst T (f (omega arith)) (allowed_in_time (suc t) (earlier (suc t) s (omega arith) a)))

    never : test 0 ≡ false → latest_free job left end late ≡ none
    never e = unreachable.1 (λ a. subst T e (allowed_in_time 0 a))

    -- # The latest free minute with its order
    order_at_lem : (t : ℕ) → Allows t → (order : List ℕ) × (order_for job t left late ≡ some order)
    order_at_lem t a = step (order_for job t left late) refl
      where
        step : (o : Option (List ℕ)) → order_for job t left late ≡ o → (order : List ℕ) × (o ≡ some order)
        step none e = absurd (((three t).unkept late).0 e a.0 a.1.whole a.1.lates)
        step (some order) e = (order, refl)

    order_from : (s : OrderFrom) → (latest_order job left end late ≡ some s) ↔
        (LatestFree job left end late s.minute × (order_for job s.minute left late ≡ some s.order))
    order_from s = (
      λ e. there e (latest_free job left end late) refl,
      λ l. from_some s.minute ((found s.minute).1 l.0) s.order l.1,
    )
      where
        there : latest_order job left end late ≡ some s → (o : Option ℕ) → latest_free job left end late ≡ o →
            LatestFree job left end late s.minute × (order_for job s.minute left late ≡ some s.order)
        there e none g = absurd (none-ne-some s (sym (from_none g) ∙ e))
        there e (some t) g =
            let l = (found t).0 g in
            let o = order_at_lem t ((l.exactly t l.in_range).1 (omega arith)) in
            let same : record { minute = t; order = o.0 } ≡ s = some-injective _ s (sym (from_some t g o.0 o.1) ∙ e) in
            subst (λ (s : OrderFrom). LatestFree job left end late s.minute × (order_for job s.minute left late ≡ some s.order))
            same (l, o.1)

    no_order : (latest_order job left end late ≡ none) ↔ (¬ Allows 0)
    no_order = (λ e a. there e a (latest_free job left end late) refl, λ h. from_none (unreachable.1 h))
      where
        there : latest_order job left end late ≡ none → Allows 0 → (o : Option ℕ) → latest_free job left end late ≡ o → ⊥
        there e a none g = unreachable.0 g a
        there e a (some t) g =
            let l = (found t).0 g in
            let o = order_at_lem t ((l.exactly t l.in_range).1 (omega arith)) in
            none-ne-some _ (sym e ∙ from_some t g o.0 o.1)

pub how_late : HowLate
how_late job left end late = (
  record { found = found job left end late; unreachable = unreachable job left end late; earlier = earlier job left end late },
  λ agreeing some_row. record {
    decides = λ t. (
      λ e. in_time_allowed job left end late agreeing some_row t (is_true (in_time job left end late t) e),
      λ a. true_is (in_time job left end late t) (allowed_in_time job left end late agreeing some_row t a),
    );
    next = next job left end late agreeing some_row;
    never = never job left end late agreeing some_row;
    order_from = order_from job left end late agreeing some_row;
    no_order = no_order job left end late agreeing some_row;
  },
)
