-- A call that is not refused, and what the call for the bound says of the book from the minute told, and from the next. Assumes nothing.
use Prim.Native.Nat.{ℕ, suc, ◌+◌, ◌≤◌, ◌<◌}
use native.Mathlib.Omega.{arith}
use native.Mathlib.Decide.{dec_le}
use mathlib.Core.Bool.{true}
use mathlib.Core.Path.{◌≡◌, refl, sym, ap, ◌∙◌, subst}
use mathlib.Core.List.{List}
use mathlib.Core.Logic.{inl, inr}
use mathlib.Core.Option.{Option, none, some}
use lib.ListN.{length}
use lib.IntN.{ℤ, pos}
use lib.Signed.{le_z, ◌<ℤ◌}
use Rattle.theory.specs.Jobs.{Job}
use Rattle.schedule.specs.Limits.{latest_minute}
use Rattle.schedule.specs.Rows.{Day, jobs, row_numbers}
use Rattle.schedule.specs.Desk.{end_of, pair_of}
use Rattle.schedule.specs.Picks.{order_for}
use Rattle.schedule.specs.Profiles.{order_by}
use Rattle.schedule.proofs.Signed.{up, down, →le_z, →lt_z}
use Rattle.schedule.proofs.Tests.{true_is}
use Rattle.refusals.specs.Refusals.{by_narrow, by_unreachable}
use Rattle.book.specs.Rows.{Contents, refused, accepted, day_of}
use Rattle.grammar.specs.FreeWord.{book_from}
use Rattle.grammar.proofs.FreeWord.{own_minute}
use Rattle.readers.specs.declared.Terms.{Terms}
use Rattle.readers.specs.Reads.{ordering_rule, read_by}
use Rattle.results.specs.Results.{written}
use Rattle.outcomes.specs.Outcomes.{order_outcome}
use Rattle.outcomes.specs.Planning.{Outcome, gives}
use Rattle.outcomes.proofs.OutcomeLaws.{order_some, order_none}
use Rattle.calls.specs.Answers.{Said, said_order}
use Rattle.calls.specs.Planned.{planned}
use Rattle.calls.proofs.CallLaws.{bound_of}
use Rattle.promises.specs.Vocabulary.{told, bound, said_pair}
use Rattle.promises.specs.Table.{Turned, by_call}
use Rattle.promises.proofs.Refused.{contents_turned}
use Rattle.promises.proofs.Accepted.{takes}
use Rattle.how_late.specs.Latest.{OrderFrom, latest_order, LatestFree}
use Rattle.how_late.specs.Laws.{ends_by, in_time, LatestLaws}
use Rattle.latest_free.specs.Answers.{said_from}
use Rattle.latest_promises.specs.Promise.{latest, LatestTurned, narrow, unreachable, Late}
use Rattle.latest_promises.proofs.Answered.{rows_length, laws, says_from}
use Rattle.latest_promises.proofs.Refused.{exactly}
use Rattle.latest_promises.proofs.FreeWord.{accepted_too}

-- # A call that is not refused
module _ (opening : ℕ) (book : List ℕ) (end late : ℤ) (b : List ℕ) (granted : (latest opening book end late b).answer.number ≡ 0) where
  -- It is that of a book that is accepted, into a buffer with a word for each row, and there is a latest free minute.
  record Granted : Type 0 where
    day : Day
    reads : read_by (ordering_rule opening) book ≡ accepted day
    wide : length day.rows ≤ length b
    from : OrderFrom
    is_from : latest_order (jobs opening day) (row_numbers day) end late ≡ some from

  not_turned : (n p : ℕ) → Turned (ordering_rule opening) book (λ day. LatestTurned opening day end late b) n p → Granted
  not_turned n p t = let r = (exactly opening book end late b n p).1 t in absurd (omega (arith, r.0, r.1, granted))

  is_granted : Granted
  is_granted = step (read_by (ordering_rule opening) book) refl
    where
      search : (day : Day) → read_by (ordering_rule opening) book ≡ accepted day → length day.rows ≤ length b →
          (x : Option OrderFrom) → latest_order (jobs opening day) (row_numbers day) end late ≡ x → Granted
      search day e h none g =
          not_turned by_unreachable 0 (by_call by_unreachable 0 day ((takes (ordering_rule opening) book day).0 e)
          (unreachable h ((laws opening book end late b day e).no_order.0 g)))
      search day e h (some s) g = record { day = day; reads = e; wide = h; from = s; is_from = g }

      room : (day : Day) → read_by (ordering_rule opening) book ≡ accepted day → Dec (length day.rows ≤ length b) → Granted
      room day e (yes h) = search day e h (latest_order (jobs opening day) (row_numbers day) end late) refl
      room day e (no h) =
          not_turned by_narrow 0 (by_call by_narrow 0 day ((takes (ordering_rule opening) book day).0 e) (narrow (omega arith)))

      step : (x : Contents) → read_by (ordering_rule opening) book ≡ x → Granted
      step (refused n p) e = not_turned n p (contents_turned (ordering_rule opening) book (λ day. LatestTurned opening day end late b) n p e)
      step (accepted day) e = room day e (dec_le (length day.rows) (length b))

-- # The call for the bound, of the book from another minute
module _ (opening free : ℕ) (rest : List ℕ) (end late : ℤ) (b : List ℕ)
    (granted : (latest opening (book_from free rest) end late b).answer.number ≡ 0) where
  abbrev terms : Terms
  terms = ordering_rule opening

  abbrev o : Outcome Said
  o = latest opening (book_from free rest) end late b

  g : Granted opening (book_from free rest) end late b granted
  g = is_granted opening (book_from free rest) end late b granted

  abbrev rows : List ℕ
  rows = row_numbers g.day

  abbrev seen : ℕ → Job
  seen = jobs opening g.day

  law : LatestLaws seen rows end late
  law = laws opening (book_from free rest) end late b g.day g.reads

  found : LatestFree seen rows end late g.from.minute × (order_for seen g.from.minute rows late ≡ some g.from.order)
  found = (law.order_from g.from).0 g.is_from

  says : o ≡ gives (said_from g.from.minute (pair_of seen g.from.minute g.from.order)) (written g.from.order b)
  says = says_from opening (book_from free rest) end late b g.day g.reads g.wide g.from g.is_from

  wide : length rows ≤ length b
  wide = omega (arith, g.wide, rows_length opening (book_from free rest) end late b g.day g.reads)

  -- It is of the same rows from that minute.
  asked_from : (m : ℕ) → m ≤ latest_minute →
      bound terms (book_from m rest) late b ≡ told said_order (order_outcome (planned terms (day_of m g.day.rows)) late b)
  asked_from m h =
      let own = (own_minute free rest g.day ((takes terms (book_from free rest) g.day).0 g.reads).accepts.tells).1 in
      ap (told said_order)
      (bound_of terms (book_from m rest) (day_of m g.day.rows) (accepted_too terms free m rest own h g.day g.reads) late b)

  pub bound_from : bound terms (book_from o.answer.minute rest) late b ≡
      gives (said_pair (record { end = o.answer.end; late = o.answer.late })) o.buffer
  unfolding order_by
  bound_from =
      subst (λ (o : Outcome Said). bound terms (book_from o.answer.minute rest) late b ≡
      gives (said_pair (record { end = o.answer.end; late = o.answer.late })) o.buffer) (sym says)
      (asked_from g.from.minute found.0.in_range ∙ ap (told said_order)
      (order_some (planned terms (day_of g.from.minute g.day.rows)) late b wide g.from.order found.1))

  -- From the minute after the latest no order keeps both: the order for the bound, if there is one, ends past the wanted end.
  module _ (m : ℕ) (later : g.from.minute < m) (h : m ≤ latest_minute) where
    past : (order : List ℕ) → order_for seen m rows late ≡ some order →
        Dec (up (pos (end_of seen m order)) + down end ≤ up end + down (pos (end_of seen m order))) → end <ℤ pos (end_of seen m order)
    past order e (yes l) =
        let kept_in_time : in_time seen rows end late m ≡ true =
        ap (ends_by seen end m) e ∙ true_is (le_z (pos (end_of seen m order)) end) (→le_z (pos (end_of seen m order)) end l) in
        absurd (omega (arith, later, (found.0.exactly m h).0 ((law.decides m).0 kept_in_time)))
    past order e (no l) = record { lt = →lt_z end (pos (end_of seen m order)) (omega arith) }

    too_late : (x : Option (List ℕ)) → order_for seen m rows late ≡ x → Late end (bound terms (book_from m rest) late b).answer
    unfolding order_by
    too_late none e =
        let s = asked_from m h ∙ ap (told said_order) (order_none (planned terms (day_of m g.day.rows)) late b wide e) in
        inl (omega arith, ap (λ (o : Outcome Said). o.answer.number) s, ap (λ (o : Outcome Said). o.answer.place) s)
    too_late (some order) e =
        let s = asked_from m h ∙ ap (told said_order) (order_some (planned terms (day_of m g.day.rows)) late b wide order e) in
        inr (subst (λ (o : Outcome Said). end <ℤ pos o.answer.end) (sym s) (past order e (dec_le _ _)))

  pub next_late : o.answer.minute < latest_minute → Late end (bound terms (book_from (suc o.answer.minute) rest) late b).answer
  next_late =
      subst (λ (o : Outcome Said). o.answer.minute < latest_minute →
      Late end (bound terms (book_from (suc o.answer.minute) rest) late b).answer) (sym says)
      (λ l. too_late (suc g.from.minute) (omega arith) l (order_for seen (suc g.from.minute) rows late) refl)
