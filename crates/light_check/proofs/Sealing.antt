-- Seals and links that are made one after the other.
use Rattle.std.proofs.Common.{arith, length, suc, ◌<◌, ◌≤◌, ◌≡◌, ◌∙◌, ℕ, List, [], ◌∷◌, ◌++◌, refl, sym, ap, subst, map, append_assoc}
use Rattle.std.specs.Prelude.{All}
use Rattle.std.proofs.lemmas.List.Elements.{All-cons, All-nil}
use Rattle.wire_bcs.specs.Digests.{digest}
use Rattle.chain_messages.specs.Messages.{member_seal}
use Rattle.checkpoint_core.specs.Checkpoints.{checkpoint}
use Rattle.chain_messages.specs.declared.messages.MemberSeal.{MemberSeal}
use Rattle.checkpoint_core.specs.declared.checkpoints.Checkpoint.{Checkpoint}
use Rattle.protocol_spec.proofs.ListLemmas.{map_length, append_nil}
use Rattle.protocol_spec.specs.Chain.Words.{Each}
use Rattle.light_check.specs.declared.chain.Link.{Link}
use Rattle.light_check.specs.declared.chain.Chain.{Chain}
use Rattle.light_check.specs.Chains.{chain, checkpoints, link}
use Rattle.light_check.proofs.Shorts.{each_of_all}
use Rattle.light_check.specs.Certified.{Accepting, IsAccepted}
use Rattle.light_check.specs.Making.{AllShort, AreSealedBy, IsSealedBy}

abbrev pub member_of : MemberSeal → ℕ
member_of s = s.member

-- accepted seals of these members
abbrev pub AreSealsOf : Accepting → List ℕ → List ℕ → List MemberSeal → Type 0
AreSealsOf accepts bytes members seals = (map member_of seals ≡ members) × Each (IsAccepted accepts bytes) seals

-- with seals of the members that are left, those so far are seals of all
abbrev pub SealsSoFar : Accepting → List ℕ → List ℕ → List ℕ → List MemberSeal → Type 0
SealsSoFar accepts bytes members rest seals = (more : List MemberSeal) → AreSealsOf accepts bytes rest more → AreSealsOf accepts bytes members (seals ++ more)

pub no_seals : (accepts : Accepting) (bytes members : List ℕ) → SealsSoFar accepts bytes members members []
no_seals accepts bytes members = λ more are. are

pub one_seal_more : (accepts : Accepting) (bytes members after : List ℕ) (member : ℕ) (seals : List MemberSeal) (s : MemberSeal) → SealsSoFar accepts bytes members (member ∷ after) seals
    → s.member ≡ member → IsAccepted accepts bytes s → SealsSoFar accepts bytes members after (seals ++ s ∷ [])
one_seal_more accepts bytes members after member seals s far is accepted = λ more are.
    subst (AreSealsOf accepts bytes members) (sym (append_assoc seals (s ∷ []) more)) (far (s ∷ more) (rw (is, are.0) refl, (accepted, are.1)))

pub all_seals : (accepts : Accepting) (bytes members rest : List ℕ) (seals : List MemberSeal) → length rest < 1 → SealsSoFar accepts bytes members rest seals → AreSealsOf accepts bytes members seals
all_seals accepts bytes members [] seals none far = subst (AreSealsOf accepts bytes members) (append_nil seals) (far [] (refl, tt))
all_seals accepts bytes members (m ∷ rest) seals none far = absurd (omega (arith, none))

-- with links of the checkpoints that are left, those so far are links of all
abbrev pub LinksSoFar : Accepting → List ℕ → List Checkpoint → List Checkpoint → List Link → Type 0
LinksSoFar accepts members checkpoints rest links = (more : List Link) → AreSealedBy accepts members rest more → AreSealedBy accepts members checkpoints (links ++ more)

pub no_links : (accepts : Accepting) (members : List ℕ) (checkpoints : List Checkpoint) → LinksSoFar accepts members checkpoints checkpoints []
no_links accepts members checkpoints = λ more are. are

pub one_link_more : (accepts : Accepting) (members : List ℕ) (checkpoints after : List Checkpoint) (c : Checkpoint) (links : List Link) (l : Link) → LinksSoFar accepts members checkpoints (c ∷ after) links
    → IsSealedBy accepts members c l → LinksSoFar accepts members checkpoints after (links ++ l ∷ [])
one_link_more accepts members checkpoints after c links l far is = λ more are.
    subst (AreSealedBy accepts members checkpoints) (sym (append_assoc links (l ∷ []) more)) (far (l ∷ more) (is, are))

pub all_links : (accepts : Accepting) (members : List ℕ) (checkpoints rest : List Checkpoint) (links : List Link) → length rest < 1 → LinksSoFar accepts members checkpoints rest links → AreSealedBy accepts members checkpoints links
all_links accepts members checkpoints [] links none far = subst (AreSealedBy accepts members checkpoints) (append_nil links) (far [] tt)
all_links accepts members checkpoints (c ∷ rest) links none far = absurd (omega (arith, none))

-- ---- what can be encoded

pub all_of_each : {A : Type 0} (P : A → Type 0) (xs : List A) → Each P xs → All P xs
all_of_each P [] each = All-nil P
all_of_each P (x ∷ xs) each = All-cons P x xs each.0 (all_of_each P xs each.1)

seals_short : (seals : List MemberSeal) → Each member_seal.short seals
unfolding member_seal digest
seals_short [] = tt
seals_short (s ∷ seals) = ((tt, tt), seals_short seals)

link_is_short : (accepts : Accepting) (members : List ℕ) (c : Checkpoint) (l : Link) → IsSealedBy accepts members c l → checkpoint.short c → length members ≤ 2147483647 → link.short l
unfolding link
link_is_short accepts members c l is short few =
    let many : length l.seals ≡ length members = sym (map_length member_of l.seals) ∙ ap (λ (xs : List ℕ). length xs) is.by in
    (subst checkpoint.short (sym is.of) short, (omega (arith, many, few), all_of_each member_seal.short l.seals (seals_short l.seals)))

links_are_short : (accepts : Accepting) (members : List ℕ) (checkpoints : List Checkpoint) (links : List Link) → AreSealedBy accepts members checkpoints links → Each checkpoint.short checkpoints → length members ≤ 2147483647
    → (length links ≡ length checkpoints) × Each link.short links
links_are_short accepts members [] [] are short few = (refl, tt)
links_are_short accepts members [] (l ∷ ls) are short few = absurd (are)
links_are_short accepts members (c ∷ cs) [] are short few = absurd (are)
links_are_short accepts members (c ∷ cs) (l ∷ ls) are short few =
    let more = links_are_short accepts members cs ls are.1 short.1 few in
    (ap suc more.0, (link_is_short accepts members c l are.0 short.0 few, more.1))

pub chain_is_short : (accepts : Accepting) (members : List ℕ) (cs : List Checkpoint) (links : List Link) → AreSealedBy accepts members cs links → checkpoints.short cs → length members ≤ 2147483647
    → (let c : Chain = record { links = links } in chain.short c)
unfolding chain checkpoints
chain_is_short accepts members cs links are short few =
    let all = links_are_short accepts members cs links are (each_of_all checkpoint.short cs short.1) few in
    let same = all.0 in
    let many = short.0 in
    (omega (arith, same, many), all_of_each link.short links all.1)

pub checkpoints_short : (cs : List Checkpoint) → checkpoints.short cs → AllShort cs
unfolding checkpoints
checkpoints_short cs short = each_of_all checkpoint.short cs short.1
