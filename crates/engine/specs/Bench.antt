-- The starred cases of document 01, "Readings on the bench", as R-1, R-5 and R-7 have them, with R-1's two limits, R-5's flat line and a stored
-- finding that no search gives (R-7), as one fact about the rules: each as what `rules` answers to an entry at a named state, and the state that
-- it leaves. Assumes nothing.
use Rattle.std.specs.Prelude.{List, [], ◌∷◌, ◌≡◌, ℕ, ℤ, pos, negsuc, neg_ℤ, None, Option, Some}
use Rattle.curve.specs.Bench.{bench_sheet, StarredReadings}
use Rattle.reference.specs.Bench.{small_sheet, StarredReferences}
use Rattle.counting.specs.declared.Chart.{Chart}
use Rattle.counting.specs.Integration.{started, counted_of}
use Rattle.sampling.specs.declared.Mode.{Mode}
use Rattle.sampling.specs.declared.Measurement.{Measurement}
use Rattle.store.specs.Store.{Stored}
use Rattle.store.specs.Store.{stored_as}
use Rattle.rules.specs.declared.State.{State}
use Rattle.rules.specs.declared.Event.{Event}
use Rattle.rules.specs.declared.Entry.{Entry}
use Rattle.rules.specs.declared.Answer.{Answer}
use Rattle.rules.specs.Answer.{refusal_of}
use Rattle.rules.specs.Rules.{answered, idle_with}
use Rattle.events.specs.Events.{with_integration, rules}

-- ---- states: Q 0, S 1,000,000 unless said, idle, nothing stored unless said

-- the bench sheet, absolute
abbrev pub bench_state : State
bench_state = idle_with (Some bench_sheet) (pos 0) 1000000 Mode.Absolute None

-- the same with another span
abbrev pub span_state : ℕ → State
span_state s = idle_with (Some bench_sheet) (pos 0) s Mode.Absolute None

-- against the reference 1,000,000,000 with e 0: the bench sheet, and the one with K 10,000,000, with this stored
abbrev pub reference_mode : Mode
reference_mode = Mode.Against (record { c = 1000000000; e = 0 })

abbrev pub reference_state : Stored → State
reference_state x = idle_with (Some bench_sheet) (pos 0) 1000000 reference_mode x

abbrev pub small_state : Stored → State
small_state x = idle_with (Some small_sheet) (pos 0) 1000000 reference_mode x

-- what was found at P 101,300, T 29,815
abbrev pub found_there : Option ℕ → Stored
found_there f = stored_as 101300 29815 f

-- the bench sheet, after a start, X counted
abbrev pub counted_once : ℤ → State
counted_once x = with_integration bench_state (counted_of (started Chart.Long) x)

-- ---- entries

-- raw at P, T, e; with Q 0 and S 1,000,000 the signal V of an absolute reading is raw
abbrev pub measuring : ℤ → ℕ → ℕ → ℕ → Measurement
measuring raw p t e = record { raw = raw; p = p; t = t; e = e }

abbrev pub sample_in : ℤ → ℕ → ℕ → ℕ → Entry
sample_in raw p t e = Entry.Known (Event.Sample (measuring raw p t e))

-- at P 101,300, T 29,815, e 0
abbrev pub sample : ℤ → Entry
sample raw = sample_in raw 101300 29815 0

abbrev pub span_to : ℤ → Entry
span_to raw = Entry.Known (Event.Span (measuring raw 101300 29815 0) 1000000000)

abbrev pub start : Entry
start = Entry.Known Event.Start

abbrev pub area : Entry
area = Entry.Known Event.Area

-- ---- what the rules give

-- the entry gets the answer at the state, and leaves that state, or another; no case needs the list of sheets
abbrev pub Answers : State → Entry → Answer → Type 0
Answers st entry a = rules [] st entry ≡ answered a st

abbrev pub AnswersLeaving : State → Entry → Answer → State → Type 0
AnswersLeaving st entry a next = rules [] st entry ≡ answered a next

-- the entry is accepted, whatever its values, and leaves the state
abbrev pub Passes : State → Entry → Type 0
Passes st entry = (refusal_of (rules [] st entry).answer ≡ 0) × ((rules [] st entry).state ≡ st)

-- the state after some entries
abbrev pub after : State → List Entry → State
after st [] = st
after st (entry ∷ entries) = after (rules [] st entry).state entries

pub record StarredCases : Type 0 where
  -- of the crates below, z among them
  pub readings : StarredReadings
  pub references : StarredReferences
  -- V 0, 1, −1, the lowest that is read and one below it (R-1), 39,999,999 and 40,000,000
  pub v_0 : Answers bench_state (sample (pos 0)) (Answer.Reading 0 (pos 0) (pos 0))
  pub v_1 : Answers bench_state (sample (pos 1)) (Answer.Reading 0 (pos 15) (pos 15))
  pub v_minus_1 : Answers bench_state (sample (neg_ℤ (pos 1))) (Answer.Reading 0 (neg_ℤ (pos 15)) (neg_ℤ (pos 15)))
  pub v_minus_2000000 : Answers bench_state (sample (neg_ℤ (pos 2000000))) (Answer.Reading 0 (neg_ℤ (pos 30000000)) (neg_ℤ (pos 30000000)))
  pub v_minus_2000001 : Answers bench_state (sample (neg_ℤ (pos 2000001))) (Answer.Refused 7)
  pub v_39999999 : Answers bench_state (sample (pos 39999999)) (Answer.Reading 0 (pos 999999967) (pos 999999967))
  pub v_40000000 : Answers bench_state (sample (pos 40000000)) (Answer.Reading 0 (pos 1000000000) (pos 1000000000))
  -- P 81,040, V 32,000,000; T 30,411, V 40,000,000
  pub p_81040 : Answers bench_state (sample_in (pos 32000000) 81040 29815 0) (Answer.Reading 0 (pos 1000000000) (pos 1000000000))
  pub t_30411 : Answers bench_state (sample_in (pos 40000000) 101300 30411 0) (Answer.Reading 0 (pos 1019989938) (pos 1019989938))
  -- P 100,000, V 40,456,000: e 2,000; e 10,001 is refusal 6, 10,000 passes
  pub e_2000 : Answers bench_state (sample_in (pos 40456000) 100000 29815 2000) (Answer.Reading 0 (pos 1034193379) (pos 1055299366))
  pub e_10001 : Answers bench_state (sample_in (pos 40456000) 100000 29815 10001) (Answer.Refused 6)
  pub e_10000 : Passes bench_state (sample_in (pos 40456000) 100000 29815 10000)
  -- reference 1,000,000,000: R 40,000,000, which stays stored (R-7); raw 0, 10,000,000 and −10,000,000; raw 0 with 30,000,000 stored; with K
  -- 10,000,000 refusal 9, and that nothing was found stays stored
  pub reference : AnswersLeaving bench_state (Entry.Known (Event.Reference 1000000000 0)) Answer.Done (reference_state None)
  pub raw_0 :
      AnswersLeaving (reference_state None) (sample (pos 0)) (Answer.Reading 40000000 (pos 1000000000) (pos 1000000000))
      (reference_state (found_there (Some 40000000)))
  pub raw_10000000 :
      AnswersLeaving (reference_state None) (sample (pos 10000000)) (Answer.Reading 40000000 (pos 1388160000) (pos 1388160000))
      (reference_state (found_there (Some 40000000)))
  pub raw_minus :
      AnswersLeaving (reference_state None) (sample (negsuc 9999999)) (Answer.Reading 40000000 (pos 695040000) (pos 695040000))
      (reference_state (found_there (Some 40000000)))
  pub stored_30000000 : Answers (reference_state (found_there (Some 30000000))) (sample (pos 0)) (Answer.Reading 30000000 (pos 630000000) (pos 630000000))
  pub k_10000000 : AnswersLeaving (small_state None) (sample (pos 0)) (Answer.Refused 9) (small_state (found_there None))
  -- span to 1,000,000,000: the answer, and the S that it leaves; refusal 5 leaves the old one
  pub span_800000 : AnswersLeaving bench_state (span_to (pos 50000000)) (Answer.Spanned 800000) (span_state 800000)
  pub span_2000000 : AnswersLeaving bench_state (span_to (pos 20000000)) (Answer.Spanned 2000000) (span_state 2000000)
  pub span_beyond : Answers bench_state (span_to (pos 19999999)) (Answer.Refused 5)
  pub span_500000 : AnswersLeaving bench_state (span_to (pos 80000000)) (Answer.Spanned 500000) (span_state 500000)
  pub span_below : Answers bench_state (span_to (pos 90000000)) (Answer.Refused 5)
  -- a start, wet values 1,000,000,000, 1,388,160,000, 1,000,000,000, and the area (R-5)
  pub three_readings :
      Answers (after (reference_state None) (start ∷ sample (pos 0) ∷ sample (pos 10000000) ∷ sample (pos 0) ∷ [])) area (Answer.Area 3 (pos 776320000))
  -- a steady 1,000,000,000 over three samples has no area (R-5)
  pub flat_line : Answers (after (reference_state None) (start ∷ sample (pos 0) ∷ sample (pos 0) ∷ sample (pos 0) ∷ [])) area (Answer.Area 3 (pos 0))
  -- one reading gives 0 (R-5): after a start and V 40,000,000, and after any X that was counted
  pub one_sample : Answers (after bench_state (start ∷ sample (pos 40000000) ∷ [])) area (Answer.Area 1 (pos 0))
  pub one_reading : (x : ℤ) → Answers (counted_once x) area (Answer.Area 1 (pos 0))
