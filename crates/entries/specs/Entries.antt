-- An event record as an entry: document 01's nine kinds and R-10's kind 10, with zero where a kind has no field; else it is malformed, which
-- is refusal 11. And the record of an event. Assumes nothing.
use Rattle.std.specs.Prelude.{ℕ, ◌≡◌, Bool, ◌&&◌, cond, eqb, ℤ, pos, nat_abs}
use Rattle.layout.specs.declared.EventRecord.{EventRecord}
use Rattle.sampling.specs.declared.Measurement.{Measurement}
use Rattle.rules.specs.declared.Event.{Event}
use Rattle.rules.specs.declared.Event.TheVariants.{Load, Zero, Span, Reference, Absolute, Sample, Start, Stop, Area, StartShort}
use Rattle.rules.specs.declared.Entry.{Entry}

-- fields that are zero
abbrev pub no_raw : EventRecord → Bool
no_raw r = eqb (nat_abs r.raw) 0

abbrev pub no_cylinder : EventRecord → Bool
no_cylinder r = eqb r.cylinder 0

abbrev pub no_air : EventRecord → Bool
no_air r = eqb r.p 0 && eqb r.t 0 && eqb r.e 0

abbrev pub no_fields : EventRecord → Bool
no_fields r = no_raw r && no_cylinder r && no_air r

abbrev pub measured : EventRecord → Measurement
measured r = record { raw = r.raw; p = r.p; t = r.t; e = r.e }

-- the event, if the fields that its kind lacks are zero
abbrev pub known_if : Bool → EventRecord → Event → Entry
known_if zero r event = cond zero (Entry.Known event) (Entry.Malformed r.kind)

-- by the kind byte; the index of a load stands in C
abbrev pub by_kind : EventRecord → Entry
by_kind r =
    cond (eqb r.kind 1) (known_if (no_raw r && no_air r) r (Event.Load r.cylinder))
    (cond (eqb r.kind 2) (known_if (no_cylinder r && no_air r) r (Event.Zero r.raw))
    (cond (eqb r.kind 3) (Entry.Known (Event.Span (measured r) r.cylinder))
    (cond (eqb r.kind 4) (known_if (no_raw r && eqb r.p 0 && eqb r.t 0) r (Event.Reference r.cylinder r.e))
    (cond (eqb r.kind 5) (known_if (no_fields r) r Event.Absolute)
    (cond (eqb r.kind 6) (known_if (no_cylinder r) r (Event.Sample (measured r)))
    (cond (eqb r.kind 7) (known_if (no_fields r) r Event.Start)
    (cond (eqb r.kind 8) (known_if (no_fields r) r Event.Stop)
    (cond (eqb r.kind 9) (known_if (no_fields r) r Event.Area)
    (cond (eqb r.kind 10) (known_if (no_fields r) r Event.StartShort)
    (Entry.Malformed r.kind))))))))))

-- the three bytes after the kind are zero
unfoldable pub entry_of : EventRecord → Entry
entry_of r = cond (eqb r.pad 0) (by_kind r) (Entry.Malformed r.kind)

-- and back: kind, three zero bytes, raw, C, P, T, e
abbrev pub event_with : ℕ → ℤ → ℕ → ℕ → ℕ → ℕ → EventRecord
event_with kind raw cylinder p t e = record { kind = kind; pad = 0; raw = raw; cylinder = cylinder; p = p; t = t; e = e }

-- the record of an event, with zero where its kind has no field
abbrev pub record_of_event : Event → EventRecord
record_of_event (Load index) = event_with 1 (pos 0) index 0 0 0
record_of_event (Zero raw) = event_with 2 raw 0 0 0 0
record_of_event (Span at cylinder) = event_with 3 at.raw cylinder at.p at.t at.e
record_of_event (Reference cylinder e) = event_with 4 (pos 0) cylinder 0 0 e
record_of_event Absolute = event_with 5 (pos 0) 0 0 0 0
record_of_event (Sample at) = event_with 6 at.raw 0 at.p at.t at.e
record_of_event Start = event_with 7 (pos 0) 0 0 0 0
record_of_event Stop = event_with 8 (pos 0) 0 0 0 0
record_of_event Area = event_with 9 (pos 0) 0 0 0 0
record_of_event StartShort = event_with 10 (pos 0) 0 0 0 0

-- the two are inverse: an event's record is read as the event, and no other record is
pub record EntryInverse : Type 0 where
  pub known : (e : Event) → entry_of (record_of_event e) ≡ Entry.Known e
  pub only : (r : EventRecord) (e : Event) → entry_of r ≡ Entry.Known e → r ≡ record_of_event e
