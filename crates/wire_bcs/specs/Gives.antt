-- How a reader's result and its new place relate to `read`, what the definition reads at the old place.
use Rattle.std.specs.Prelude.{◌≡◌, ℕ, ◌≤◌, ◌==◌, true, false, List, length, Result, Ok, Err}
use Rattle.wire_bcs.specs.declared.fault.WireFault.{WireFault}
use Rattle.wire_bcs.specs.declared.fault.Unread.{Unread}
use Rattle.wire_bcs.specs.declared.fault.Unread.TheVariants as unread
use Rattle.wire_bcs.specs.Place.{Place, Stop, Read, left}

-- for one item: it was read, and the reader stands after it; or there is a fault at its first byte, and the reader
-- has not moved. `view` is the part of the result that the definition speaks of
abbrev pub Item : {X A : Type 0} → (X → A) → Place → Place → Result X WireFault → Read A → Type 0
Item view old new (Ok x) read = read ≡ Ok (view x, new)
Item view old new (Err f) read = (read ≡ Err (record { place = old; why = f.why })) × (f.at ≡ old.at) × (new ≡ old)

-- for the first part of an item of two parts: a fault only has the right number, since the caller sets its place
abbrev pub Within : {X A : Type 0} → (X → A) → Place → Result X WireFault → Read A → Type 0
Within view new (Ok x) read = read ≡ Ok (view x, new)
Within view new (Err f) read = (p : Place) × (read ≡ Err (record { place = p; why = f.why }))

-- for a value: it was read, and the reader stands after it; or the reader stands at the first fault. If memory was
-- refused nothing is said
abbrev pub Gives : {A : Type 0} → Place → Result A Unread → Read A → Type 0
Gives new (Ok x) read = read ≡ Ok (x, new)
Gives new (Err (unread.Wire f)) read = (read ≡ Err (record { place = new; why = f.why })) × (f.at ≡ new.at)
Gives new (Err unread.OutOfMemory) read = Unit {0}

-- `Gives` for a result that has the value as one part: `view` takes it out
abbrev pub GivesAs : {X A : Type 0} → (X → A) → Place → Result X Unread → Read A → Type 0
GivesAs view new (Ok x) read = read ≡ Ok (view x, new)
GivesAs view new (Err (unread.Wire f)) read = (read ≡ Err (record { place = new; why = f.why })) × (f.at ≡ new.at)
GivesAs view new (Err unread.OutOfMemory) read = Unit {0}

-- in the same input, not before, and not past its end
pub record Ahead (old new : Place) : Type 0 where
  pub input : new.input ≡ old.input
  pub at : old.at ≤ new.at
  pub end : new.at ≤ length new.input

-- nothing is left, or fault 7 at the first byte that is left
abbrev pub Ended : {X : Type 0} → Place → Result X WireFault → Type 0
Ended p (Ok x) = (length (left p) == 0) ≡ true
Ended p (Err f) = ((length (left p) == 0) ≡ false) × (f.at ≡ p.at) × (f.why ≡ 7)

-- all the bytes encode the value; or this is their first fault, and its place
abbrev pub Decodes : {A : Type 0} → List ℕ → Result A Unread → Result A Stop → Type 0
Decodes bytes (Ok x) read = read ≡ Ok x
Decodes bytes (Err (unread.Wire f)) read = read ≡ Err (record { place = record { input = bytes; at = f.at }; why = f.why })
Decodes bytes (Err unread.OutOfMemory) read = Unit {0}

-- `Decodes` for a result that has the value as one part: `view` takes it out
abbrev pub DecodesAs : {X A : Type 0} → (X → A) → List ℕ → Result X Unread → Result A Stop → Type 0
DecodesAs view bytes (Ok x) read = read ≡ Ok (view x)
DecodesAs view bytes (Err (unread.Wire f)) read = read ≡ Err (record { place = record { input = bytes; at = f.at }; why = f.why })
DecodesAs view bytes (Err unread.OutOfMemory) read = Unit {0}
