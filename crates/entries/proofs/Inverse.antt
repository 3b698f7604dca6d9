-- `record_of_event` is the inverse of `entry_of`, `EntryInverse`: a record is read as an event exactly where it is that event's record.
-- Assumes nothing.
use Prim.Native.Nat.{ℕ}
use native.Mathlib.Omega.{arith}
use mathlib.Core.Bool.{Bool, true, false, ◌&&◌, cond}
use mathlib.Core.Path.{◌≡◌, refl}
use borrow.Author.Tests.{eqb-true}
use lib.Dec.{eqb}
use lib.IntN.{ℤ, pos, negsuc, nat_abs}
use Rattle.curve.proofs.Within.{both}
use Rattle.layout.specs.declared.EventRecord.{EventRecord}
use Rattle.rules.specs.declared.Event.{Event}
use Rattle.rules.specs.declared.Event.TheVariants.{Load, Zero, Span, Reference, Absolute, Sample, Start, Stop, Area, StartShort}
use Rattle.rules.specs.declared.Entry.{Entry}
use Rattle.entries.specs.Entries.{no_raw, no_cylinder, no_air, no_fields, measured, known_if, by_kind, entry_of, event_with, record_of_event, EntryInverse}

pub record_known : (e : Event) → entry_of (record_of_event e) ≡ Entry.Known e
unfolding entry_of
record_known (Load index) = refl
record_known (Zero raw) = refl
record_known (Span at cylinder) = refl
record_known (Reference cylinder e) = refl
record_known Absolute = refl
record_known (Sample at) = refl
record_known Start = refl
record_known Stop = refl
record_known Area = refl
record_known StartShort = refl

never : {P : Type 0} {k : ℕ} {e : Event} → Entry.Malformed k ≡ Entry.Known e → P
never h = let z : ◌≡◌ {A = ℕ} 0 1 = cc in absurd (omega arith)

no_size : (z : ℤ) → eqb (nat_abs z) 0 ≡ true → z ≡ pos 0
no_size (pos n) h = rw (eqb-true n 0 h)
no_size (negsuc n) h = absurd (omega (arith, eqb-true (nat_abs (negsuc n)) 0 h))

module _ (r : EventRecord) where
  zero_air : no_air r ≡ true → (r.p ≡ 0) × (r.t ≡ 0) × (r.e ≡ 0)
  zero_air h =
      let a = both (eqb r.p 0 && eqb r.t 0) (eqb r.e 0) h in
      let b = both (eqb r.p 0) (eqb r.t 0) a.0 in
      (eqb-true _ _ b.0, eqb-true _ _ b.1, eqb-true _ _ a.1)

  module _ (z : r.pad ≡ 0) {n : ℕ} (k : r.kind ≡ n) where
    same : {raw : ℤ} {c p t e : ℕ} → r.raw ≡ raw → r.cylinder ≡ c → r.p ≡ p → r.t ≡ t → r.e ≡ e → r ≡ event_with n raw c p t e
    same hr hc hp ht he = λ i. record { kind = k i; pad = z i; raw = hr i; cylinder = hc i; p = hp i; t = ht i; e = he i }

    bare : no_fields r ≡ true → r ≡ event_with n (pos 0) 0 0 0 0
    bare h =
        let a = both (no_raw r && no_cylinder r) (no_air r) h in
        let b = both (no_raw r) (no_cylinder r) a.0 in
        let air = zero_air a.1 in
        same (no_size _ b.0) (eqb-true _ _ b.1) air.0 air.1 air.2

  module _ (e : Event) where
    abbrev Known : Entry → Type 0
    Known x = x ≡ Entry.Known e

    abbrev Is : Type 0
    Is = r ≡ record_of_event e

    -- what is shown of kind n, with its test t and its event d
    abbrev Way : ℕ → Bool → Event → Type 0
    Way n t d = r.kind ≡ n → t ≡ true → r ≡ record_of_event d

    -- one kind: it is this one, with its test passed and its event found, or it is among those that follow
    kind : (n : ℕ) (t : Bool) (d : Event) (x : Entry) → Known (cond (eqb r.kind n) (known_if t r d) x) → Way n t d → (Known x → Is) → Is
    kind n t d x = go (eqb r.kind n) refl t
      where
        go : (b : Bool) → eqb r.kind n ≡ b → (t : Bool) → Known (cond b (known_if t r d) x) → Way n t d → (Known x → Is) → Is
        go true k true h f g = let s : d ≡ e = cc in rw (← s) (f (eqb-true _ _ k) refl)
        go true k false h f g = never h
        go false k t h f g = g h

    by_kind_lem : r.pad ≡ 0 → Known (by_kind r) → Is
    by_kind_lem z h =
        kind 1 (no_raw r && no_air r) (Load r.cylinder) _ h
        (λ k p. let b = both (no_raw r) (no_air r) p in let a = zero_air b.1 in same z k (no_size _ b.0) refl a.0 a.1 a.2) (λ h.
        kind 2 (no_cylinder r && no_air r) (Zero r.raw) _ h
        (λ k p. let b = both (no_cylinder r) (no_air r) p in let a = zero_air b.1 in same z k refl (eqb-true _ _ b.0) a.0 a.1 a.2) (λ h.
        kind 3 true (Span (measured r) r.cylinder) _ h (λ k p. same z k refl refl refl refl refl) (λ h.
        kind 4 (no_raw r && eqb r.p 0 && eqb r.t 0) (Reference r.cylinder r.e) _ h
        (λ k p. let a = both (no_raw r && eqb r.p 0) (eqb r.t 0) p in let b = both (no_raw r) (eqb r.p 0) a.0 in
        same z k (no_size _ b.0) refl (eqb-true _ _ b.1) (eqb-true _ _ a.1) refl) (λ h.
        kind 5 (no_fields r) Absolute _ h (bare z) (λ h.
        kind 6 (no_cylinder r) (Sample (measured r)) _ h (λ k p. same z k refl (eqb-true _ _ p) refl refl refl) (λ h.
        kind 7 (no_fields r) Start _ h (bare z) (λ h. kind 8 (no_fields r) Stop _ h (bare z) (λ h. kind 9 (no_fields r) Area _ h (bare z) (λ h.
        kind 10 (no_fields r) StartShort _ h (bare z) never)))))))))

pub known_record : (r : EventRecord) (e : Event) → entry_of r ≡ Entry.Known e → r ≡ record_of_event e
unfolding entry_of
known_record r e h = go (eqb r.pad 0) refl _ _ h (by_kind_lem r e) never
  where
    go : (b : Bool) → eqb r.pad 0 ≡ b → (x y : Entry) → cond b x y ≡ Entry.Known e → (r.pad ≡ 0 → x ≡ Entry.Known e → r ≡ record_of_event e)
        → (y ≡ Entry.Known e → r ≡ record_of_event e) → r ≡ record_of_event e
    go true z x y h f g = f (eqb-true _ _ z) h
    go false z x y h f g = g h

pub entry_inverse : EntryInverse
entry_inverse = record { known = record_known; only = known_record }
