-- How a process that makes a journal ends.
use Rattle.std.proofs.Common.{inl, inr, refl, sym, subst, ap, ◌∙◌, arith}
use Rattle.std.specs.Prelude.{◌≡◌, ◌⊎◌, ◌↔◌, ◌<◌, ◌≤◌, ℕ, Bool, true, false, List, [], ◌∷◌, ◌++◌, length, Option, Some, None, Result, Ok, Err}
use Rattle.outside.specs.Causes.{Rose}
use Rattle.outside.specs.Lists.{AddsRecord, Journals, KeepsJournals}
use Rattle.digest_core.specs.declared.Digest.{Digest}
use Rattle.disk_log.specs.Disk.{AreSeen, HasExtent, History, IfTold, IsImage, moments}
use Rattle.disk_log.specs.Keeping.{told_lists}
use Rattle.disk_log.specs.Records.{Record, counted, journals_of, records_to}
use Rattle.disk_log.specs.Running.{AddsExactly, IsEmptyTo, Unchanged}
use Rattle.disk_log.specs.SeenLaws.{now-seen}
use Rattle.world_spec.specs.Setting.{Trust}
use Rattle.world_spec.specs.Scene.{Scene}
use Rattle.validator_core.proofs.Settling.{keeps_same}
use Rattle.process_lines.specs.declared.starts.StartLine.{StartLine}
use Rattle.process_lines.specs.declared.starts.StartLine.TheVariants as start
use Rattle.validator_process.specs.declared.journal.Unopened.{Unopened}
use Rattle.validator_process.specs.declared.reading.Unstarted.{Unstarted}
use Rattle.validator_process.specs.declared.stop.Stop.{Stop}
use Rattle.validator_process.specs.declared.stop.Stop.TheVariants as stop
use Rattle.validator_process.specs.declared.words.Task.TheVariants as task
use Rattle.validator_process.specs.Ending.{AddsIdentity, AreFresh, EndsLists, EndsMade, EndsMaking, EndsTask, HasIdentity, HoldsOnly, IsSaid, IsUnopenedBy, SaysUnopened, SaysUnstarted, kept_in, program_trust}
use Rattle.validator_process.specs.Genesis.{genesis_of, line_status}
use Rattle.validator_process.specs.Growing.{EachLeft, HasMore, IsWhole}
use Rattle.validator_process.specs.Identity.{genesis_digest, identity_bytes, identity_record}
use Rattle.validator_process.specs.Starting.{IsInside, OpensAs}
use Rattle.validator_process.specs.Stops.{status_of}
use Rattle.validator_process.proofs.Ended.{setup_refused}
use Rattle.validator_process.proofs.Kept.{each_map, each_whole, each_wide, held as held_by}

-- ---- the first record

module _ (m : ℕ) (text : List ℕ) (genesis : Digest) (bytes : List ℕ) (kept kept' : Option Journals) (same : genesis ≡ genesis_digest text) (are : bytes ≡ identity_bytes m genesis) where
  pub identity_added : AddsRecord kept kept' 64 bytes → AddsIdentity m text kept kept'
  identity_added adds = subst (λ (b : List ℕ). AddsRecord kept kept' 64 b) (are ∙ ap (λ (d : Digest). identity_bytes m d) same) adds

module _ (m : ℕ) (text : List ℕ) (kept : Option Journals) where
  abbrev MayAdd : Option Journals → Type 0
  MayAdd lists = AddsIdentity m text kept lists ⊎ KeepsJournals kept lists

  pub identity_each : (genesis : Digest) (bytes : List ℕ) (width : ℕ) (told : Option History) → genesis ≡ genesis_digest text → bytes ≡ identity_bytes m genesis → EachLeft (λ lists. AddsRecord kept lists 64 bytes ⊎ KeepsJournals kept lists) width told → EachLeft MayAdd width told
  identity_each genesis bytes width told same are each = each_map width told by-one each
    where
      by-one : (lists : Option Journals) → AddsRecord kept lists 64 bytes ⊎ KeepsJournals kept lists → MayAdd lists
      by-one lists (inl adds) = inl (identity_added m text genesis bytes kept lists same are adds)
      by-one lists (inr keeps) = inr keeps

pub nothing_each : (m : ℕ) (text : List ℕ) (told : Option History) (end width : ℕ) (shut : Bool) → IsWhole told end shut → IfTold told (λ h. AreSeen (moments h)) → EachLeft (MayAdd m text (told_lists told end width)) width told
nothing_each m text told end width shut whole seen = each_whole (MayAdd m text (told_lists told end width)) told end width shut whole seen (inr (keeps_same (told_lists told end width)))

-- ---- the record in the file

-- the log had no record, so this one is its only one
alone-by : (told told' : Option History) (end end' : ℕ) (shut' : Bool) (bytes : List ℕ) → IfTold told (IsEmptyTo end true) → IfTold told' (λ h. AreSeen (moments h)) → AddsExactly told told' end end' (record { member = 64; bytes = bytes }) (Ok tt) → IsWhole told' end' shut'
    → IfTold told' (HoldsOnly (record { member = 64; bytes = bytes } ∷ []))
alone-by None told' end end' shut' bytes empty seen none whole = subst (λ (t : Option History). IfTold t (HoldsOnly (record { member = 64; bytes = bytes } ∷ []))) (sym none) tt
alone-by (Some h) told' end end' shut' bytes empty seen (n, is, exactly) whole =
    let r : Record = record { member = 64; bytes = bytes } in
    let only : records_to n.now.reads end' ≡ r ∷ [] = exactly ∙ ap (λ (records : List Record). records ++ r ∷ []) (empty.0 refl) in
    let n-whole : IsWhole (Some n) end' shut' = subst (λ (t : Option History). IsWhole t end' shut') is whole in
    let here : (image : List ℕ) → IsImage n.now image → counted image ≡ r ∷ [] = λ image im. n-whole.left image im ∙ only in
    subst (λ (t : Option History). IfTold t (HoldsOnly (r ∷ []))) (sym is)
    (record { reads = here n.now.reads (now-seen n (subst (λ (t : Option History). IfTold t (λ h. AreSeen (moments h))) is seen)); crash = here })

pub identity_alone : (told told' : Option History) (end end' : ℕ) (shut' : Bool) (m : ℕ) (text : List ℕ) (genesis : Digest) (bytes : List ℕ) → genesis ≡ genesis_digest text → bytes ≡ identity_bytes m genesis → IfTold told (IsEmptyTo end true) → IfTold told' (λ h. AreSeen (moments h))
    → AddsExactly told told' end end' (record { member = 64; bytes = bytes }) (Ok tt) → IsWhole told' end' shut' → HasIdentity m text told'
identity_alone told told' end end' shut' m text genesis bytes same are empty seen exactly whole =
    subst (λ (d : Digest). IfTold told' (HoldsOnly (identity_record m d ∷ []))) same
    (subst (λ (b : List ℕ). IfTold told' (HoldsOnly (record { member = 64; bytes = b } ∷ []))) are (alone-by told told' end end' shut' bytes empty seen exactly whole))

-- ---- a status that is not 0

pub never_zero : (why : Stop) (status : ℕ) → status ≡ status_of why → status ≡ 0 → ⊥
never_zero stop.ReadFault status is nought = omega (arith, is, nought)
never_zero stop.WriteFault status is nought = omega (arith, is, nought)
never_zero stop.KeepFault status is nought = omega (arith, is, nought)
never_zero stop.OutOfMemory status is nought = omega (arith, is, nought)

pub said_zero : (line : StartLine) (held held' : Option (List ℕ)) (w w' status : ℕ) → IsSaid line held held' w w' status → status ≡ 0 → line_status line ≡ 0
said_zero line held held' w w' status (inl whole) nought = sym whole.ends ∙ nought
said_zero line held held' w w' status (inr cut) nought = absurd (never_zero cut.why status cut.ends nought)

module _ (m : ℕ) (text : List ℕ) (told : Option History) where
  pub made_alone : (status : ℕ) → HasIdentity m text told → status ≡ 0 → HasIdentity m text told
  made_alone status alone nought = alone

  pub unmade_alone : (why : Stop) → status_of why ≡ 0 → HasIdentity m text told
  unmade_alone why nought = absurd (never_zero why (status_of why) refl nought)

  pub full_alone : (held held' : Option (List ℕ)) (w w' status : ℕ) → IsSaid start.NotEmpty held held' w w' status → status ≡ 0 → HasIdentity m text told
  full_alone held held' w w' status said nought = absurd (let e : 8 ≡ 0 = said_zero start.NotEmpty held held' w w' status said nought in cc)

-- ---- over a log

pub still_empty : (told : Option History) (end : ℕ) (empty : Bool) → IfTold told (IsEmptyTo end empty) → empty ≡ true → IfTold told (IsEmptyTo end true)
still_empty told end empty to is = subst (λ (b : Bool). IfTold told (IsEmptyTo end b)) is to

pub no_lists : (told : Option History) (end members : ℕ) (empty : Bool) → members ≡ 65 → IfTold told (IsEmptyTo end empty) → empty ≡ true → AreFresh (told_lists told end members)
no_lists None end members empty width to is = tt
no_lists (Some h) end members empty width to is =
    ap (λ (records : List Record). journals_of members records) (to.0 is) ∙ ap (λ (n : ℕ). journals_of n []) width

module _ (m : ℕ) (text : List ℕ) (held held' : Option (List ℕ)) (kept kept' : Option Journals) (w w' k k' status : ℕ) where
  pub made : (line : StartLine) → line ≡ start.Made m (genesis_digest text) → AreFresh kept → AddsIdentity m text kept kept' → IsSaid line held held' w w' status → EndsLists m text held held' kept kept' w w' k k' status
  made line is fresh adds said = inl (record { fresh = fresh; adds = adds; said = subst (λ (l : StartLine). IsSaid l held held' w w' status) is said })

pub unmade : (m : ℕ) (text : List ℕ) (held : Option (List ℕ)) (kept kept' : Option Journals) (w k k' : ℕ) (why : Stop) (given : Result StartLine Stop) → given ≡ Err why → IsInside why → AddsIdentity m text kept kept' ⊎ KeepsJournals kept kept'
    → (given ≡ Err stop.KeepFault → Rose k k') → EndsLists m text held held kept kept' w w k k' (status_of why)
unmade m text held kept kept' w k k' why given is inside keeps cause = inr (inr (record {
  why = why;
  inside = inside;
  ends = refl;
  cause = λ e. cause (is ∙ ap (λ (s : Stop). Err s) e);
  unsaid = refl;
  keeps = keeps;
}))

pub unmade_same : (m : ℕ) (text : List ℕ) (held : Option (List ℕ)) (kept kept' : Option Journals) (w k k' : ℕ) (why : Stop) (given : Result StartLine Stop) → given ≡ Err why → IsInside why → KeepsJournals kept kept'
    → (given ≡ Err stop.KeepFault → Rose k k') → EndsLists m text held held kept kept' w w k k' (status_of why)
unmade_same m text held kept kept' w k k' why given is inside keeps cause = unmade m text held kept kept' w k k' why given is inside (inr keeps) cause

pub unmade_each : (m : ℕ) (text : List ℕ) (held : Option (List ℕ)) (kept : Option Journals) (w k k' : ℕ) (why : Stop) (given : Result StartLine Stop) (width : ℕ) (told : Option History) → given ≡ Err why → IsInside why → (given ≡ Err stop.KeepFault → Rose k k')
    → EachLeft (MayAdd m text kept) width told → EachLeft (λ lists. EndsLists m text held held kept lists w w k k' (status_of why)) width told
unmade_each m text held kept w k k' why given width told is inside cause each = each_map width told (λ lists keeps. unmade m text held kept lists w k k' why given is inside keeps cause) each

module _ (m : ℕ) (text : List ℕ) (held held' : Option (List ℕ)) (kept : Option Journals) (w w' k k' status : ℕ) (told : Option History) (end width : ℕ) (shut : Bool) where
  pub made_each : (line : StartLine) → line ≡ start.Made m (genesis_digest text) → AreFresh kept → AddsIdentity m text kept (told_lists told end width) → IsSaid line held held' w w' status → IsWhole told end shut → IfTold told (λ h. AreSeen (moments h))
      → EachLeft (λ lists. EndsLists m text held held' kept lists w w' k k' status) width told
  made_each line is fresh adds said whole seen =
      each_whole (λ lists. EndsLists m text held held' kept lists w w' k k' status) told end width shut whole seen (made m text held held' kept (told_lists told end width) w w' k k' status line is fresh adds said)

pub full : (m : ℕ) (text : List ℕ) (held held' : Option (List ℕ)) (kept : Option Journals) (w w' k k' status : ℕ) → IsSaid start.NotEmpty held held' w w' status → EndsLists m text held held' kept kept w w' k k' status
full m text held held' kept w w' k k' status said = inr (inl (record { same = keeps_same kept; said = said }))

pub full_each : (m : ℕ) (text : List ℕ) (held held' : Option (List ℕ)) (w w' k k' status : ℕ) (told : Option History) (end width : ℕ) (shut : Bool) → IsSaid start.NotEmpty held held' w w' status → IsWhole told end shut → IfTold told (λ h. AreSeen (moments h))
    → EachLeft (λ lists. EndsLists m text held held' (told_lists told end width) lists w w' k k' status) width told
full_each m text held held' w w' k k' status told end width shut said whole seen =
    each_whole (λ lists. EndsLists m text held held' (told_lists told end width) lists w w' k k' status) told end width shut whole seen (full m text held held' (told_lists told end width) w w' k k' status said)

-- ---- over a disk

module _ (m : ℕ) (text : List ℕ) (told told' : Option History) (held held' : Option (List ℕ)) (w w' k k' status : ℕ) where
  pub making : (opened : ℕ) (first : Option Journals) (end end' width : ℕ) (log : Option History) → first ≡ kept_in told → k ≤ opened → EndsLists m text held held' first (told_lists told' end' width) w w' opened k' status
      → EachLeft (λ lists. EndsLists m text held held' first lists w w' opened k' status) width told' → width ≡ 65 → HasMore log told' end end' k' → (status ≡ 0 → HasIdentity m text told') → EndsMaking m text told told' held held' w w' k k' status
  making opened first end end' width log same later ends each wide more alone = inl (record {
    opened = opened;
    width = width;
    lists = told_lists told' end' width;
    later = later;
    ends = subst (λ (l : Option Journals). EndsLists m text held held' l (told_lists told' end' width) w w' opened k' status) same ends;
    holds = held_by told' end' width k' more.holds;
    each = subst (λ (l : Option Journals). EachLeft (λ lists. EndsLists m text held held' l lists w w' opened k' status) 65 told') same
        (each_wide (λ lists. EndsLists m text held held' first lists w w' opened k' status) width 65 told' wide each);
    alone = alone;
  })

  pub unmaking : (why : Unopened) → IsUnopenedBy why told k k' → SaysUnopened why held held' w w' status → Unchanged told told' → EndsMaking m text told told' held held' w w' k k' status
  unmaking why cause said stays = inr (record { why = why; cause = cause; unread = refl; said = said; stays = stays })

-- ---- from the text

pub no_setup : (trust : Trust) (m : ℕ) (text : List ℕ) (told : Option History) (held held' : Option (List ℕ)) (w w' k status : ℕ) (why : Unstarted) → OpensAs (genesis_of trust m text) (Err why) → SaysUnstarted why held held' w w' status
    → EndsMade trust m text told told held held' w w' k k status
no_setup trust m text told held held' w w' k status why opens said = inl (setup_refused trust m text told None held held' w w' k status why opens said)

long-told : (told : Option History) (extent : ℕ) → HasExtent told extent → 66 < extent → IfTold told (λ h. 66 < length h.now.reads)
long-told None extent sized long = tt
long-told (Some h) extent sized long = subst (λ (n : ℕ). 66 < n) (sym sized) long

pub too_long : (trust : Trust) (m : ℕ) (text : List ℕ) (told : Option History) (held held' : Option (List ℕ)) (w w' k status extent : ℕ) → HasExtent told extent → 66 < extent → IsSaid start.NotEmpty held held' w w' status
    → EndsMade trust m text told told held held' w w' k k status
too_long trust m text told held held' w w' k status extent sized long said = inr (inl (record { long = long-told told extent sized long; said = said; disk = refl; uncounted = refl }))

pub made_for : (trust : Trust) (m : ℕ) (text : List ℕ) (told told' : Option History) (held held' : Option (List ℕ)) (w w' k k' status : ℕ) (scene : Scene) → genesis_of trust m text ≡ Ok scene → EndsMaking m text told told' held held' w w' k k' status
    → EndsMade trust m text told told' held held' w w' k k' status
made_for trust m text told told' held held' w w' k k' status scene genesis ends = inr (inr (record { scene = scene; genesis = genesis; ends = ends }))

pub same_maker : (told told' : Option History) (left held held' : Option (List ℕ)) (r w w' k k' status : ℕ) (t : Trust) (m : ℕ) (text : List ℕ) → t ≡ program_trust → EndsMade t m text told told' held held' w w' k k' status
    → EndsTask (task.Make m) text told told' left left held held' r r w w' k k' status
same_maker told told' left held held' r w w' k k' status t m text same ends = (refl, refl, subst (λ (x : Trust). EndsMade x m text told told' held held' w w' k k' status) same ends)
