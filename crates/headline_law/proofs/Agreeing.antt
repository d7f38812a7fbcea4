-- A certified chain is made of checkpoints that honest members have built, and agrees with what any member has built.
use Rattle.std.proofs.Common.{inl, inr, refl, sym, subst, ap, ◌∙◌, arith, append-nil}
use Rattle.std.specs.Prelude.{◌≡◌, ◌⊎◌, ◌<◌, ℕ, zero, suc, ◌+◌, true, false, List, [], ◌∷◌, ◌++◌, take, drop, length, slice_get, Option, Some, None, option_map}
use Rattle.digest_core.specs.declared.Digest.{Digest}
use Rattle.chain_messages.specs.declared.messages.MemberSeal.{MemberSeal}
use Rattle.chain_messages.specs.declared.messages.Entry.{Entry}
use Rattle.chain_messages.specs.declared.messages.Statement.TheVariants as statement
use Rattle.checkpoint_core.specs.declared.checkpoints.Item.{Item}
use Rattle.checkpoint_core.specs.declared.checkpoints.Checkpoint.{Checkpoint}
use Rattle.checkpoint_core.specs.Checkpoints.{digest_of_checkpoint}
use Rattle.checkpoint_core.specs.Links.{wanted_number}
use Rattle.quorum_core.specs.Committee.{is_among, is_quorum, weight}
use Rattle.schedule_text.specs.declared.words.Event.{Event}
use Rattle.schedule_text.specs.declared.words.Setup.{Setup}
use Rattle.protocol_spec.proofs.ListLemmas.{each_has, has_mapped}
use Rattle.protocol_spec.specs.Chain.Words.{Each, Has, IsFront, last_of}
use Rattle.protocol_spec.specs.Member.Sequence.{Cut}
use Rattle.protocol_spec.specs.Member.Checkpoints.{digest_before}
use Rattle.protocol_spec.specs.Member.Member.{built}
use Rattle.world_spec.specs.Setting.{Setting, Trust, setting_of}
use Rattle.world_spec.specs.Openings.{opening_at, sequence_of}
use Rattle.world_spec.specs.World.{Seat, checkpoint_statement, honest_seat, is_honest, member_in}
use Rattle.world_spec.specs.Run.{world_after}
use Rattle.world_spec.specs.Assumptions.{FewFaulty, IsHonestRun, IsStated, is_faulty_in, HasSaid}
use Rattle.safety_law.proofs.Meeting.{two_meet}
use Rattle.safety_law.proofs.Owner.{honest-after}
use Rattle.safety_law.proofs.Sound.{get-has}
use Rattle.block_law.specs.Orderly.{AreApart}
use Rattle.safety_law.specs.Past.{checkpoints_with, items_of_thread, past_at}
use Rattle.safety_law.proofs.OneList.{built-is-of-thread, one-list}
use Rattle.safety_law.proofs.SetUp.{set-up-apart}
use Rattle.headline_law.proofs.Standing.{among-has}
use Rattle.light_check.specs.declared.chain.Link.{Link}
use Rattle.light_check.specs.Certified.{Accepting, IsAccepted, IsCertified, IsCertifiedBehind, members_in, stated, tip_of}
use Rattle.headline_law.specs.Checked.{AgreesWith, IsBuiltIn, IsHonestChain, IsUnforgedLink}
use Rattle.headline_law.proofs.Building.{IsStatedOf, stated-built}

-- ---- an honest member is among those who sealed

module _ (s : Setting) (events : List Event) (few : FewFaulty s) where
  record IsHonestSealer (l : Link) : Type 0 where
    seal : MemberSeal
    among : Has l.seals seal
    honest : is_honest (world_after s events) seal.member ≡ true

  honest-sealer : (l : Link) → is_quorum s.rules.stakes (weight s.rules.stakes (members_in l)) ≡ true → IsHonestSealer l
  honest-sealer l quorum = go (two_meet s.rules.stakes (is_among (members_in l)) (is_among (members_in l)) (is_faulty_in s.honest) quorum quorum few)
    where
      sealed : (m : ℕ) → is_faulty_in s.honest m ≡ false → (x : MemberSeal) × Has l.seals x × (x.member ≡ m) → IsHonestSealer l
      sealed m faulty (x, h, e) = record { seal = x; among = h; honest = subst (λ (n : ℕ). is_honest (world_after s events) n ≡ true) (sym e) (honest-after s events m faulty) }

      go : (m : ℕ) × (m < length s.rules.stakes) × (is_among (members_in l) m ≡ true) × (is_among (members_in l) m ≡ true) × (is_faulty_in s.honest m ≡ false) → IsHonestSealer l
      go (m, low, one, two, faulty) = sealed m faulty (has_mapped (λ (x : MemberSeal). x.member) l.seals m (among-has (members_in l) m one))

  -- it has built the checkpoint
  module _ (links : List Link) (chain : IsHonestChain s (world_after s events) links) (l : Link) (there : Has links l) where
    built-by : (m : ℕ) → is_honest (world_after s events) m ≡ true → HasSaid (world_after s events) m (checkpoint_statement l.checkpoint) → IsBuiltIn s (world_after s events) l.checkpoint
    built-by m honest told = seated (slice_get (world_after s events).seats m) refl honest
      where
        same_digest : (c : Checkpoint) → checkpoint_statement c ≡ checkpoint_statement l.checkpoint → digest_of_checkpoint c ≡ digest_of_checkpoint l.checkpoint
        same_digest c e = digests c.epoch l.checkpoint.epoch c.number l.checkpoint.number (digest_of_checkpoint c) (digest_of_checkpoint l.checkpoint) e
          where
            digests : (e f n k : ℕ) (d g : Digest) → statement.Checkpoint e n d ≡ statement.Checkpoint f k g → d ≡ g
            digests e f n k d g q = cc

        of : (seat : Seat) → slice_get (world_after s events).seats m ≡ Some seat → seat.honest ≡ true → IsStatedOf (member_in s seat) (checkpoint_statement l.checkpoint) → IsBuiltIn s (world_after s events) l.checkpoint
        of seat at is (c, h, e) =
            let it : IsBuiltIn s (world_after s events) c = record { member = m; seat = seat; at = at; honest = is; among = h } in
            subst (IsBuiltIn s (world_after s events)) (chain.checkpoints l there c it (same_digest c e)) it

        seated : (o : Option Seat) → slice_get (world_after s events).seats m ≡ o → honest_seat o ≡ true → IsBuiltIn s (world_after s events) l.checkpoint
        seated None at is = absurd (cc)
        seated (Some seat) at is = of seat at is (stated-built s events m seat at is l.checkpoint.epoch l.checkpoint.number (digest_of_checkpoint l.checkpoint) told)

    link-built : is_quorum s.rules.stakes (weight s.rules.stakes (members_in l)) ≡ true → Each (IsAccepted s.rules.accepts (stated l.checkpoint)) l.seals → IsBuiltIn s (world_after s events) l.checkpoint
    link-built quorum sealed = go (honest-sealer l quorum)
      where
        go : IsHonestSealer l → IsBuiltIn s (world_after s events) l.checkpoint
        go h = built-by h.seal.member h.honest
            (each_has (λ (x : MemberSeal). IsStated s (world_after s events) x.member (checkpoint_statement l.checkpoint) x.seal) l.seals h.seal
            (each_has (IsUnforgedLink s (world_after s events)) links l chain.no_forgery there) h.among
            h.honest (each_has (IsAccepted s.rules.accepts (stated l.checkpoint)) l.seals h.seal sealed h.among))

  each-link : (before : Option Checkpoint) (links : List Link) → IsCertifiedBehind s.rules.stakes s.rules.accepts before links → (l : Link) → Has links l
      → (is_quorum s.rules.stakes (weight s.rules.stakes (members_in l)) ≡ true) × Each (IsAccepted s.rules.accepts (stated l.checkpoint)) l.seals
  each-link before [] is l h = absurd h
  each-link before (k ∷ ks) is l (inl e) = subst (λ (x : Link). (is_quorum s.rules.stakes (weight s.rules.stakes (members_in x)) ≡ true) × Each (IsAccepted s.rules.accepts (stated x.checkpoint)) x.seals) e (is.0.quorum, is.0.sealed)
  each-link before (k ∷ ks) is l (inr h) = each-link (Some k.checkpoint) ks is.1 l h

  pub certified-built : (links : List Link) → IsCertified s.rules.stakes s.rules.accepts links → IsHonestChain s (world_after s events) links → (l : Link) → Has links l → IsBuiltIn s (world_after s events) l.checkpoint
  certified-built links is chain l h = let both = each-link None links is l h in link-built links chain l h both.0 both.1

-- ---- numbers are places

next-number : (c : Checkpoint) → wanted_number (option_map tip_of (Some c)) ≡ c.number + 1
next-number c = refl

-- the link at a place has its number, if the first has this one
link-number : (stakes : List ℕ) (accepts : Accepting) (before : Option Checkpoint) (number : ℕ) → wanted_number (option_map tip_of before) ≡ number → (links : List Link) → IsCertifiedBehind stakes accepts before links
    → (place : ℕ) (l : Link) → slice_get links place ≡ Some l → l.checkpoint.number ≡ number + place
link-number stakes accepts before number first [] is place l at = absurd (cc)
link-number stakes accepts before number first (k ∷ ks) is zero l at =
    let same : k ≡ l = cc in
    let this : k.checkpoint.number ≡ number = is.0.number ∙ first in
    subst (λ (x : Link). x.checkpoint.number ≡ number + zero) same (omega (arith, this))
link-number stakes accepts before number first (k ∷ ks) is (suc place) l at =
    let this : k.checkpoint.number ≡ number = is.0.number ∙ first in
    let next : wanted_number (option_map tip_of (Some k.checkpoint)) ≡ number + 1 = next-number k.checkpoint ∙ ap (λ (n : ℕ). n + 1) this in
    let rest = link-number stakes accepts (Some k.checkpoint) (number + 1) next ks is.1 place l at in
    omega (arith, rest)

get-push : {A : Type 0} (xs : List A) (x : A) (i : ℕ) (y : A) → slice_get (xs ++ x ∷ []) i ≡ Some y → (slice_get xs i ≡ Some y) ⊎ ((i ≡ length xs) × (x ≡ y))
get-push [] x zero y e = inr (refl, cc)
get-push [] x (suc i) y e = absurd (cc)
get-push (z ∷ xs) x zero y e = inl e
get-push (z ∷ xs) x (suc i) y e = go (get-push xs x i y e)
  where
    go : (slice_get xs i ≡ Some y) ⊎ ((i ≡ length xs) × (x ≡ y)) → (slice_get (z ∷ xs) (suc i) ≡ Some y) ⊎ ((suc i ≡ length (z ∷ xs)) × (x ≡ y))
    go (inl h) = inl h
    go (inr p) = inr (ap suc p.0, p.1)

get-front : {A : Type 0} (xs more : List A) (i : ℕ) (y : A) → slice_get xs i ≡ Some y → slice_get (xs ++ more) i ≡ Some y
get-front [] more i y e = absurd (cc)
get-front (x ∷ xs) more zero y e = e
get-front (x ∷ xs) more (suc i) y e = get-front xs more i y e

has-get : {A : Type 0} (xs : List A) (y : A) → Has xs y → (i : ℕ) × (slice_get xs i ≡ Some y)
has-get [] y h = absurd h
has-get (x ∷ xs) y (inl e) = (0, ap Some e)
has-get (x ∷ xs) y (inr h) = let rest = has-get xs y h in (suc rest.0, rest.1)

abbrev AreNumbered : List Checkpoint → Type 0
AreNumbered cs = (i : ℕ) (c : Checkpoint) → slice_get cs i ≡ Some c → c.number ≡ i

numbered-push : (cs : List Checkpoint) (c : Checkpoint) → c.number ≡ length cs → AreNumbered cs → AreNumbered (cs ++ c ∷ [])
numbered-push cs c is numbered i d at = go (get-push cs c i d at)
  where
    go : (slice_get cs i ≡ Some d) ⊎ ((i ≡ length cs) × (c ≡ d)) → d.number ≡ i
    go (inl h) = numbered i d h
    go (inr p) = ap (λ (x : Checkpoint). x.number) (sym p.1) ∙ is ∙ sym p.0

numbered-with : (epoch : ℕ) (items : List Item) (before : List Checkpoint) (cuts : List Cut) → AreNumbered before → AreNumbered (checkpoints_with epoch items before cuts)
numbered-with epoch items before [] numbered = numbered
numbered-with epoch items before (c ∷ cs) numbered = numbered-with epoch (drop (length c.txs) items) (before ++ next ∷ []) cs (numbered-push before next refl numbered)
  where
    next : Checkpoint
    next = record { epoch = epoch; number = length before; parent = digest_before (last_of before); items = take (length c.txs) items; last = c.last }

numbered-past : (s : Setting) (sequences : List (List Entry)) (epoch : ℕ) → AreNumbered (past_at s sequences epoch)
unfolding past_at
numbered-past s sequences zero = λ i c at. absurd (cc)
numbered-past s sequences (suc epoch) =
    let cuts = (sequence_of s sequences epoch (opening_at s sequences epoch)).cuts in
    numbered-with epoch (items_of_thread (opening_at s sequences epoch) cuts) (past_at s sequences epoch) cuts (numbered-past s sequences epoch)

numbered-front : (xs ys : List Checkpoint) → IsFront xs ys → AreNumbered ys → AreNumbered xs
numbered-front xs ys (more, e) numbered i c at = numbered i c (ap (λ (zs : List Checkpoint). slice_get zs i) e ∙ get-front xs more i c at)

-- ---- no member differs

same-at : {A : Type 0} (xs ys : List A) (i : ℕ) (x y : A) → IsFront xs ys ⊎ IsFront ys xs → slice_get xs i ≡ Some x → slice_get ys i ≡ Some y → x ≡ y
same-at {A} xs ys i x y (inl (more, e)) one two = same (sym (ap (λ (zs : List A). slice_get zs i) e ∙ get-front xs more i x one) ∙ two)
  where
    same : Some x ≡ Some y → x ≡ y
    same q = cc
same-at {A} xs ys i x y (inr (more, e)) one two = same (sym one ∙ (ap (λ (zs : List A). slice_get zs i) e ∙ get-front ys more i y two))
  where
    same : Some x ≡ Some y → x ≡ y
    same q = cc

pub certified-agrees : (s : Setting) (events : List Event) → IsHonestRun s events → AreApart s.opening → (links : List Link) → IsCertified s.rules.stakes s.rules.accepts links
    → IsHonestChain s (world_after s events) links → AgreesWith s (world_after s events) links
certified-agrees s events run_is distinct links is chain place l there m seat at c built_at = go (certified-built s events run_is.few_faulty links is chain l (get-has links place l there))
  where
    numbered : (n : ℕ) (q : Seat) → slice_get (world_after s events).seats n ≡ Some q → AreNumbered (built (member_in s q))
    numbered n q by = numbered-front (built (member_in s q)) (past_at s (world_after s events).sequences (suc (member_in s q).epoch)) (built-is-of-thread s events run_is distinct n q by)
        (numbered-past s (world_after s events).sequences (suc (member_in s q).epoch))

    one : (n : ℕ) (q : Seat) → slice_get (world_after s events).seats n ≡ Some q → IsFront (built (member_in s seat)) (built (member_in s q)) ⊎ IsFront (built (member_in s q)) (built (member_in s seat))
    one n q by = one-list s events [] (subst (IsHonestRun s) (sym (append-nil events)) run_is) distinct m n seat q at
        (subst (λ (es : List Event). slice_get (world_after s es).seats n ≡ Some q) (sym (append-nil events)) by)

    go : IsBuiltIn s (world_after s events) l.checkpoint → c ≡ l.checkpoint
    go it =
        let found = has-get (built (member_in s it.seat)) l.checkpoint it.among in
        let number = link-number s.rules.stakes s.rules.accepts None 0 refl links is place l there in
        let here : found.0 ≡ place = sym (numbered it.member it.seat it.at found.0 l.checkpoint found.1) ∙ (number ∙ omega arith) in
        same-at (built (member_in s seat)) (built (member_in s it.seat)) place c l.checkpoint (one it.member it.seat it.at) built_at
        (subst (λ (i : ℕ). slice_get (built (member_in s it.seat)) i ≡ Some l.checkpoint) here found.1)

pub agrees-in-schedules : (trust : Trust) (lines : List Setup) (events : List Event) → IsHonestRun (setting_of trust lines) events → (links : List Link)
    → IsCertified (setting_of trust lines).rules.stakes (setting_of trust lines).rules.accepts links → IsHonestChain (setting_of trust lines) (world_after (setting_of trust lines) events) links
    → AgreesWith (setting_of trust lines) (world_after (setting_of trust lines) events) links
agrees-in-schedules trust lines events run_is = certified-agrees (setting_of trust lines) events run_is (set-up-apart trust lines)
