-- What a whole value's reading says of a decoder's answer.
use Rattle.std.proofs.Common.{◌≡◌, ℕ, List, Result, Ok, Err, subst}
use Rattle.std.specs.Prelude.{IfOk}
use Rattle.wire_bcs.specs.declared.fault.Unread.{Unread}
use Rattle.wire_bcs.specs.Place.{Stop, IsBytes}
use Rattle.wire_bcs.specs.Codec.{Codec}
use Rattle.wire_bcs.specs.Whole.{whole, whole-found, whole-only}
use Rattle.wire_bcs.specs.Gives.{Decodes, DecodesAs}

pub is_found : {A : Type 0} (c : Codec A) (bytes : List ℕ) (result : Result A Unread) → IsBytes bytes → Decodes bytes result (whole c bytes) → IfOk result (λ x. (bytes ≡ c.spell x) × c.fits x)
is_found c bytes (Ok x) fits h = whole-found c bytes x fits h
is_found c bytes (Err e) fits h = tt

pub is_short : {A : Type 0} (c : Codec A) (bytes : List ℕ) (result : Result A Unread) → IsBytes bytes → Decodes bytes result (whole c bytes) → IfOk result c.short
is_short c bytes (Ok x) fits h = c.lists x (whole-found c bytes x fits h).1
is_short c bytes (Err e) fits h = tt

pub is_only : {A : Type 0} (c : Codec A) (bytes : List ℕ) (x : A) (result : Result A Unread) → c.fits x → bytes ≡ c.spell x → Decodes bytes result (whole c bytes) → Decodes bytes result (Ok x)
is_only {A} c bytes x result fits e h = subst (λ (read : Result A Stop). Decodes bytes result read) (whole-only c bytes x fits e) h

pub is_found_as : {X A : Type 0} (view : X → A) (c : Codec A) (bytes : List ℕ) (result : Result X Unread) → IsBytes bytes → DecodesAs view bytes result (whole c bytes) → IfOk result (λ x. (bytes ≡ c.spell (view x)) × c.fits (view x))
is_found_as view c bytes (Ok x) fits h = whole-found c bytes (view x) fits h
is_found_as view c bytes (Err e) fits h = tt

pub is_short_as : {X A : Type 0} (view : X → A) (c : Codec A) (bytes : List ℕ) (result : Result X Unread) → IsBytes bytes → DecodesAs view bytes result (whole c bytes) → IfOk result (λ x. c.short (view x))
is_short_as view c bytes (Ok x) fits h = c.lists (view x) (whole-found c bytes (view x) fits h).1
is_short_as view c bytes (Err e) fits h = tt
