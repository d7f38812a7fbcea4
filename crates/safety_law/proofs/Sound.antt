-- In each world of a run each seal of a formed certificate is its member's on a vote that it stated, and what is ordered
-- was formed or stated.
use Rattle.std.proofs.Common.{inl, inr, refl, sym, subst, ap, ◌∙◌}
use Rattle.std.proofs.lemmas.Bool.{eqb-true}
use Rattle.std.specs.Prelude.{◌≡◌, ◌⊎◌, ℕ, zero, suc, Bool, true, false, not, ◌&&◌, ◌==◌, List, [], ◌∷◌, ◌++◌, map, slice_get, slice_set, Option, Some, None, cond, option_map, option_and_then}
use Rattle.digest_core.specs.declared.Digest.{Digest}
use Rattle.chain_types.specs.Equal.{digest_eq}
use Rattle.chain_types.specs.Digests.{transaction_digest}
use Rattle.chain_types.specs.declared.transactions.Transaction.{Transaction}
use Rattle.chain_types.specs.declared.transactions.SignedTx.{SignedTx}
use Rattle.chain_messages.specs.declared.messages.Statement.{Statement}
use Rattle.chain_messages.specs.declared.messages.Statement.TheVariants as statement
use Rattle.chain_messages.specs.declared.messages.MemberSeal.{MemberSeal}
use Rattle.chain_messages.specs.declared.messages.Entry.{Entry}
use Rattle.chain_messages.specs.declared.messages.Entry.TheVariants as entry
use Rattle.protocol_spec.proofs.Equality.{origins_same, digest_same}
use Rattle.protocol_spec.specs.Chain.Collecting.{Collected, short, differ, whole, lacks_where, differ_from, differs_among, too_short, whole_or}
use Rattle.protocol_spec.specs.Chain.Words.{Has, first_some, first_of, where_true}
use Rattle.protocol_spec.specs.Chain.Tests.{origins_eq}
use Rattle.protocol_spec.specs.Chain.Committee.{weight, total_of, is_quorum}
use Rattle.protocol_spec.specs.Chain.Certificates.{vote_of}
use Rattle.protocol_spec.proofs.Truth.{and_true, where_not_true}
use Rattle.protocol_spec.specs.Member.Calls.{Call}
use Rattle.world_spec.specs.Setting.{Setting, member_seal, seal_of_member}
use Rattle.world_spec.specs.World.{Seat, Made, Formed, World, Reached, finds_down, stops, answers, said_under, sealed_by, with_seat, stopped_seat, reached_seat, behind, called_seat, called_in, is_honest, entries_at, list_or_none, called_over, Said, kept_seal, stated}
use Rattle.world_spec.specs.Step.{says, says_of, vote_in, seal_in, of_statement, the_seal, last_read, last_said, first_origins, vote_statement, certificate_of, collected_seal, votes_collected, appended_entry, open_entries, risen_if}
use Rattle.world_spec.specs.Making.{TxLine, with_made, digest_or_zero}
use Rattle.safety_law.proofs.Apart.{none-of}
use Rattle.safety_law.proofs.Once.{has-push}
use Rattle.safety_law.proofs.Steps.{Keeps, IsBacked, IsIn, IsOfMade, last-said, with_formed}
use Rattle.safety_law.proofs.Grown.{IsGrown, grown-same, grown-seat, grown-behind, grown-keeps, said-on}
use Rattle.world_spec.specs.Assumptions.{HasSaid}
use Rattle.protocol_spec.proofs.ListLemmas.{has_parts}

-- ---- equal origins

-- ---- what collecting the whole says

only : {A : Type 0} (o : Option A) (a : A) → first_some (o ∷ []) ≡ Some a → o ≡ Some a
only None a e = e
only (Some b) a e = e

-- no element says it, so it is not the first
never-first : {A B : Type 0} (says : A → Option B) (bad : B) → ((x : A) → says x ≡ Some bad → ⊥) → (xs : List A) → first_of says xs ≡ Some bad → ⊥
never-first says bad not [] e = absurd (cc)
never-first {A} {B} says bad not (x ∷ xs) e = go (says x) refl e (never-first says bad not xs)
  where
    go : (o : Option B) → says x ≡ o → first_some (o ∷ first_of says xs ∷ []) ≡ Some bad → (first_of says xs ≡ Some bad → ⊥) → ⊥
    go (Some b) q e rest = not x (q ∙ e)
    go None q e rest = rest (only (first_of says xs) bad e)

whole-none : (a b c : Option Collected) → (a ≡ Some whole → ⊥) → (b ≡ Some whole → ⊥) → (c ≡ Some whole → ⊥) → whole_or (first_some (a ∷ b ∷ c ∷ [])) ≡ whole → (a ≡ None) × (b ≡ None) × (c ≡ None)
whole-none (Some x) b c p q r e = absurd (p (ap (λ (y : Collected). Some y) e))
whole-none None (Some x) c p q r e = absurd (q (ap (λ (y : Collected). Some y) e))
whole-none None None (Some x) p q r e = absurd (r (ap (λ (y : Collected). Some y) e))
whole-none None None None p q r e = (refl, refl, refl)

module _ (reads : ℕ → Option (List (Option Digest))) where
  no-lack : (m : ℕ) → lacks_where m (reads m) ≡ Some whole → ⊥
  no-lack m e = go (reads m) e
    where
      go : (o : Option (List (Option Digest))) → lacks_where m o ≡ Some whole → ⊥
      go None e = cc
      go (Some x) e = cc

  no-true : (b : Bool) (c : Collected) → (c ≡ whole → ⊥) → where_true b c ≡ Some whole → ⊥
  no-true true c other e = other (same e)
    where
      same : Some c ≡ Some whole → c ≡ whole
      same e = cc
  no-true false c other e = cc

  no-short : (stakes : List ℕ) (ms : List ℕ) → too_short stakes ms ≡ Some whole → ⊥
  no-short stakes ms e = no-true _ _ (λ q. cc) e

  no-differ : (a m : ℕ) → differ_from origins_eq a (reads a) m (reads m) ≡ Some whole → ⊥
  no-differ a m e = go (reads a) (reads m) e
    where
      go : (x y : Option (List (Option Digest))) → differ_from origins_eq a x m y ≡ Some whole → ⊥
      go None y e = cc
      go (Some x) None e = cc
      go (Some x) (Some y) e = no-true (not (origins_eq x y)) (differ a m) (λ q. cc) e

  no-differs : (ms : List ℕ) → differs_among origins_eq reads ms ≡ Some whole → ⊥
  no-differs [] e = cc
  no-differs (a ∷ ms) e = never-first (λ b. differ_from origins_eq a (reads a) b (reads b)) whole (no-differ a) ms e

  filled : (m : ℕ) (o : Option (List (Option Digest))) → lacks_where m o ≡ None → (x : List (Option Digest)) × (o ≡ Some x)
  filled m None e = absurd (cc)
  filled m (Some x) e = (x, refl)

  alike : (a m : ℕ) (o p : Option (List (Option Digest))) (x y : List (Option Digest)) → o ≡ Some x → p ≡ Some y → differ_from origins_eq a o m p ≡ None → x ≡ y
  alike a m None p x y eo ep e = absurd (cc)
  alike a m (Some u) None x y eo ep e = absurd (cc)
  alike a m (Some u) (Some v) x y eo ep e = sym (same u x eo) ∙ (origins_same u v (where_not_true (origins_eq u v) (differ a m) e) ∙ same v y ep)
    where
      same : (u x : List (Option Digest)) → Some u ≡ Some x → u ≡ x
      same u x e = cc

  -- all members say the first one's word
  agreed : (a : ℕ) (ms : List ℕ) → first_of (λ m. lacks_where m (reads m)) (a ∷ ms) ≡ None → differs_among origins_eq reads (a ∷ ms) ≡ None → (m : ℕ) → Has (a ∷ ms) m → reads m ≡ Some (list_or_none (reads a))
  agreed a ms lack differs m h = go (filled a (reads a) (none-of (λ k. lacks_where k (reads k)) (a ∷ ms) a lack (inl refl))) h
    where
      go : (x : List (Option Digest)) × (reads a ≡ Some x) → Has (a ∷ ms) m → reads m ≡ Some (list_or_none (reads a))
      go (x, e) (inl q) = subst (λ (n : ℕ). reads n ≡ Some (list_or_none (reads a))) q (e ∙ ap (λ (o : Option (List (Option Digest))). Some (list_or_none o)) (sym e))
      go (x, e) (inr h) = next (filled m (reads m) (none-of (λ k. lacks_where k (reads k)) (a ∷ ms) m lack (inr h)))
        where
          next : (y : List (Option Digest)) × (reads m ≡ Some y) → reads m ≡ Some (list_or_none (reads a))
          next (y, f) =
              let same = alike a m (reads a) (reads m) x y e f (none-of (λ b. differ_from origins_eq a (reads a) b (reads b)) ms m differs h) in
              f ∙ (ap (λ (z : List (Option Digest)). Some z) (sym same) ∙ ap (λ (o : Option (List (Option Digest))). Some (list_or_none o)) (sym e))

-- ---- the votes of a formed certificate

is-vote : (epoch : ℕ) (tx : Digest) (st : Statement) (o : List (Option Digest)) → vote_in epoch tx st ≡ Some o → st ≡ statement.Vote epoch tx o
is-vote epoch tx (statement.End e) o q = absurd (cc)
is-vote epoch tx (statement.Checkpoint e number digest) o q = absurd (cc)
is-vote epoch tx (statement.Ack e t effects) o q = absurd (cc)
is-vote epoch tx (statement.Vote e t p) o q = go ((e == epoch) && digest_eq t tx) refl q
  where
    named : e ≡ epoch → t ≡ tx → Some p ≡ Some o → statement.Vote e t p ≡ statement.Vote epoch tx o
    named n a b = cc

    go : (b : Bool) → ((e == epoch) && digest_eq t tx) ≡ b → where_true b p ≡ Some o → statement.Vote e t p ≡ statement.Vote epoch tx o
    go true d q = let both = and_true (e == epoch) (digest_eq t tx) d in named (eqb-true e epoch both.0) (digest_same t tx both.1) q
    go false d q = absurd (cc)

module _ (s : Setting) (w : World) (t : Made) where
  abbrev said_of : ℕ → Option (List (Option Digest))
  said_of m = last_said (vote_in t.signed.tx.epoch t.digest) m w.said

  -- none of the causes applies
  free : (ms : List ℕ) → votes_collected s w t ms ≡ whole → (first_of (λ k. lacks_where k (said_of k)) ms ≡ None) × (too_short s.rules.stakes ms ≡ None) × (differs_among origins_eq said_of ms ≡ None)
  unfolding votes_collected
  free ms e = whole-none (first_of (λ k. lacks_where k (said_of k)) ms) (too_short s.rules.stakes ms) (differs_among origins_eq said_of ms)
      (never-first (λ k. lacks_where k (said_of k)) whole (no-lack said_of) ms) (no-short said_of s.rules.stakes ms) (no-differs said_of ms) e

  firsts : (ms : List ℕ) (m : ℕ) → votes_collected s w t ms ≡ whole → Has ms m → said_of m ≡ Some (first_origins w t ms)
  firsts [] m e h = absurd h
  firsts (a ∷ ms) m e h = let none = free (a ∷ ms) e in agreed said_of a ms none.0 none.2 m h

  pub collected-quorum : (ms : List ℕ) → votes_collected s w t ms ≡ whole → is_quorum s.rules.stakes (weight s.rules.stakes ms) ≡ true
  collected-quorum ms e = where_not_true (is_quorum s.rules.stakes (weight s.rules.stakes ms)) (short (weight s.rules.stakes ms) (total_of s.rules.stakes)) (free ms e).1

  pub collected-said : (ms : List ℕ) (m : ℕ) → votes_collected s w t ms ≡ whole → Has ms m → HasSaid w m (vote_statement t.signed.tx t.digest (first_origins w t ms))
  collected-said ms m e h = go (last-said (vote_in t.signed.tx.epoch t.digest) m w.said (first_origins w t ms) (firsts ms m e h))
    where
      go : IsIn (vote_in t.signed.tx.epoch t.digest) m w.said (first_origins w t ms) → HasSaid w m (vote_statement t.signed.tx t.digest (first_origins w t ms))
      go (st, seal, k, r) = subst (HasSaid w m) (is-vote t.signed.tx.epoch t.digest st (first_origins w t ms) r) (seal, k)

-- ---- the seals of votes, if each statement is under its member's seal

module _ (s : Setting) (epoch : ℕ) (tx : Digest) (m : ℕ) where
  abbrev vote_seal : List (Option Digest) → Option Digest
  vote_seal origins = Some (seal_of_member s.seal m (statement.Vote epoch tx origins))

  first-sealed : (a b : Option (List (Option Digest))) → first_some (option_map vote_seal a ∷ option_map vote_seal b ∷ []) ≡ option_map vote_seal (first_some (a ∷ b ∷ []))
  first-sealed (Some x) b = refl
  first-sealed None (Some y) = refl
  first-sealed None None = refl

  one-sealed : (x : Said) → x ≡ sealed_by s.seal x.member x.statement → says_of (seal_in epoch tx) m x ≡ option_map vote_seal (says_of (of_statement (vote_in epoch tx)) m x)
  one-sealed x told = by (x.member == m) refl
    where
      under : (origins : List (Option Digest)) → x.member ≡ m → x.statement ≡ statement.Vote epoch tx origins → x.seal ≡ vote_seal origins
      under origins n st =
          ap (λ (y : Said). y.seal) told
          ∙ ap (λ (z : Statement). kept_seal z (seal_of_member s.seal x.member z)) st
          ∙ ap (λ (k : ℕ). Some (seal_of_member s.seal k (statement.Vote epoch tx origins))) n

      of : (o : Option (List (Option Digest))) → x.member ≡ m → vote_in epoch tx x.statement ≡ o → option_map (λ _. x.seal) o ≡ option_map vote_seal o
      of None n q = refl
      of (Some origins) n q = ap (λ (d : Option Digest). Some d) (under origins n (is-vote epoch tx x.statement origins q))

      by : (b : Bool) → (x.member == m) ≡ b → cond b (seal_in epoch tx x) None ≡ option_map vote_seal (cond b (vote_in epoch tx x.statement) None)
      by true p = of (vote_in epoch tx x.statement) (eqb-true x.member m p) refl
      by false p = refl

  sealed-read : (said : List Said) → ((x : Said) → Has said x → x ≡ sealed_by s.seal x.member x.statement) → last_read (seal_in epoch tx) m said ≡ option_map vote_seal (last_said (vote_in epoch tx) m said)
  sealed-read [] told = refl
  sealed-read (x ∷ xs) told =
      ap (λ (o : Option (Option Digest)). first_some (o ∷ says_of (seal_in epoch tx) m x ∷ [])) (sealed-read xs (λ y h. told y (inr h)))
      ∙ ap (λ (o : Option (Option Digest)). first_some (option_map vote_seal (last_said (vote_in epoch tx) m xs) ∷ o ∷ [])) (one-sealed x (told x (inl refl)))
      ∙ first-sealed (last_said (vote_in epoch tx) m xs) (says_of (of_statement (vote_in epoch tx)) m x)

-- ---- a vote is for a transaction that was made or handed

abbrev pub IsGiven : List SignedTx → List Made → Transaction → Type 0
IsGiven total txs t = ((x : Made) × Has txs x × (x.signed.tx ≡ t)) ⊎ ((x : SignedTx) × Has total x × (x.tx ≡ t))

-- ---- the world

pub record IsSound (s : Setting) (w : World) : Type 0 where
  pub made : (t : Made) → Has w.txs t → t.digest ≡ transaction_digest t.signed.tx
  pub told : (x : Said) → Has w.said x → x ≡ sealed_by s.seal x.member x.statement
  pub voted : (f : Formed) → Has w.certs f → (x : MemberSeal) → Has f.cert.seals x → Has w.said (said_under x.seal x.member (vote_of f.cert))
  pub sealed : (f : Formed) → Has w.certs f → (x : MemberSeal) → Has f.cert.seals x → x.seal ≡ member_seal s x.member (vote_of f.cert)
  pub backed : (es : List Entry) → Has w.sequences es → (e : Entry) → Has es e → IsBacked w e

backed-grown : (w v : World) → IsGrown w v → (e : Entry) → IsBacked w e → IsBacked v e
backed-grown w v g (entry.Cert c) (f, h, e) = (f, g.certs f h, e)
backed-grown w v g (entry.End x) told = λ honest. said-on w v g x.member x.statement (told (sym (g.honest x.member) ∙ honest))
backed-grown w v g entry.Commit backed = tt

has-set : {A : Type 0} (xs : List A) (n : ℕ) (y x : A) → Has (slice_set xs n y) x → Has xs x ⊎ (y ≡ x)
has-set [] n y x h = absurd h
has-set (z ∷ zs) zero y x (inl e) = inr e
has-set (z ∷ zs) zero y x (inr h) = inl (inr h)
has-set (z ∷ zs) (suc n) y x (inl e) = inl (inl e)
has-set {A} (z ∷ zs) (suc n) y x (inr h) = go (has-set zs n y x h)
  where
    go : Has zs x ⊎ (y ≡ x) → Has (z ∷ zs) x ⊎ (y ≡ x)
    go (inl h) = inl (inr h)
    go (inr e) = inr e

pub get-has : {A : Type 0} (xs : List A) (n : ℕ) (x : A) → slice_get xs n ≡ Some x → Has xs x
get-has [] n x e = absurd (cc)
get-has (y ∷ ys) zero x e = inl (same e)
  where
    same : Some y ≡ Some x → y ≡ x
    same e = cc
get-has (y ∷ ys) (suc n) x e = inr (get-has ys n x e)

-- an entry of an epoch's sequence stands in one of the sequences
pub entry-in : (qs : List (List Entry)) (n : ℕ) (e : Entry) → Has (entries_at qs n) e → (es : List Entry) × Has qs es × Has es e
entry-in qs n e h = go (slice_get qs n) refl h
  where
    go : (o : Option (List Entry)) → slice_get qs n ≡ o → Has (list_or_none o) e → (es : List Entry) × Has qs es × Has es e
    go None q h = absurd h
    go (Some es) q h = (es, get-has qs n es q, h)

-- what is stated more is under the seals of its members
told-more : (s : Setting) (said : List Said) (m : ℕ) (sts : List Statement) → ((x : Said) → Has said x → x ≡ sealed_by s.seal x.member x.statement)
    → (x : Said) → Has (said ++ map (sealed_by s.seal m) sts) x → x ≡ sealed_by s.seal x.member x.statement
told-more s said m sts told x h = go (has_parts said (map (sealed_by s.seal m) sts) x h)
  where
    new : (sts : List Statement) → Has (map (sealed_by s.seal m) sts) x → x ≡ sealed_by s.seal x.member x.statement
    new [] h = absurd h
    new (st ∷ sts) (inl e) = subst (λ (y : Said). y ≡ sealed_by s.seal y.member y.statement) e refl
    new (st ∷ sts) (inr h) = new sts h

    go : Has said x ⊎ Has (map (sealed_by s.seal m) sts) x → x ≡ sealed_by s.seal x.member x.statement
    go (inl h) = told x h
    go (inr h) = new sts h

-- if transactions, certificates and sequences stay
sound-as : (s : Setting) (w v : World) → IsGrown w v → v.txs ≡ w.txs → v.certs ≡ w.certs → v.sequences ≡ w.sequences
    → ((x : Said) → Has v.said x → x ≡ sealed_by s.seal x.member x.statement) → IsSound s w → IsSound s v
sound-as s w v g txs certs sequences told sound = record {
  told = told;
  made = λ t h. sound.made t (subst (λ (ts : List Made). Has ts t) txs h);
  voted = λ f h x k. g.said _ (sound.voted f (subst (λ (fs : List Formed). Has fs f) certs h) x k);
  sealed = λ f h x k. sound.sealed f (subst (λ (fs : List Formed). Has fs f) certs h) x k;
  backed = λ es h e k. backed-grown w v g e (sound.backed es (subst (λ (qs : List (List Entry)). Has qs es) sequences h) e k);
}

module _ (s : Setting) where
  sound-behind : (w : World) (m : ℕ) (call : Call) (seat : Seat) (r : Reached) → slice_get w.seats m ≡ Some seat → IsSound s w → IsSound s (behind s w m call seat r)
  sound-behind w m call seat finds_down at sound = sound
  sound-behind w m call seat (stops kept x) at sound =
      sound-as s w (with_seat w m (stopped_seat seat kept x)) (grown-seat w m seat (stopped_seat seat kept x) at refl) refl refl refl sound.told sound
  sound-behind w m call seat (answers before x) at sound =
      sound-as s w (behind s w m call seat (answers before x)) (grown-behind s w m call seat (answers before x) at) refl refl refl (told-more s w.said m (stated s.rules before call) sound.told) sound

  sound-called_seat : (w : World) (m : ℕ) (call : Call) (seat : Option Seat) → slice_get w.seats m ≡ seat → IsSound s w → IsSound s (called_seat s w m call seat)
  sound-called_seat w m call None at sound = sound
  sound-called_seat w m call (Some seat) at sound = sound-behind w m call seat (reached_seat s call seat) at sound

  sound-called : (w : World) (m : ℕ) (call : Call) → IsSound s w → IsSound s (called_in s w m call)
  unfolding called_over
  sound-called w m call sound = sound-called_seat w m call (slice_get w.seats m) refl sound

  sound-says : (w : World) (m : ℕ) (st : Statement) → is_honest w m ≡ false → IsOfMade w st → IsSound s w → IsSound s (says s.seal w m st)
  sound-says w m st faulty of_made sound =
      sound-as s w (says s.seal w m st) ((grown-keeps s w).lies w m st faulty of_made (grown-same w)) refl refl refl (told-more s w.said m (st ∷ []) sound.told) sound

  sound-enters : (w : World) (e : Entry) → IsBacked w e → IsSound s w → IsSound s (appended_entry w e)
  sound-enters w e backed sound = record { made = sound.made; told = sound.told; voted = sound.voted; sealed = sound.sealed; backed = entries }
    where
      grown : IsGrown w (appended_entry w e)
      grown = (grown-keeps s w).enters w e backed (grown-same w)

      newer : (x : Entry) → Has (open_entries w) x ⊎ (e ≡ x) → IsBacked w x
      newer x (inl h) = let at = entry-in w.sequences w.epoch x h in sound.backed at.0 at.1 x at.2
      newer x (inr q) = subst (IsBacked w) q backed

      entries : (es : List Entry) → Has (slice_set w.sequences w.epoch (open_entries w ++ e ∷ [])) es → (x : Entry) → Has es x → IsBacked (appended_entry w e) x
      entries es h x k = go (has-set w.sequences w.epoch (open_entries w ++ e ∷ []) es h)
        where
          go : Has w.sequences es ⊎ ((open_entries w ++ e ∷ []) ≡ es) → IsBacked (appended_entry w e) x
          go (inl h) = backed-grown w (appended_entry w e) grown x (sound.backed es h x k)
          go (inr q) = backed-grown w (appended_entry w e) grown x (newer x (has-push (open_entries w) e x (subst (λ (ys : List Entry). Has ys x) (sym q) k)))

  sound-rises : (w : World) → IsSound s w → IsSound s (risen_if true w)
  sound-rises w sound = record { made = sound.made; told = sound.told; voted = sound.voted; sealed = sound.sealed; backed = entries }
    where
      entries : (es : List Entry) → Has (w.sequences ++ [] ∷ []) es → (x : Entry) → Has es x → IsBacked (risen_if true w) x
      entries es h x k = go (has-push w.sequences [] es h)
        where
          go : Has w.sequences es ⊎ ([] ≡ es) → IsBacked (risen_if true w) x
          go (inl h) = backed-grown w (risen_if true w) ((grown-keeps s w).rises w (grown-same w)) x (sound.backed es h x k)
          go (inr q) = absurd (subst (λ (ys : List Entry). Has ys x) (sym q) k)

  sound-makes : (w : World) (l : TxLine) (t : Made) → t.digest ≡ transaction_digest t.signed.tx → IsSound s w → IsSound s (with_made w l t)
  sound-makes w l t digest sound = record {
    made = λ x h. made x (has-push w.txs t x h);
    told = sound.told;
    voted = sound.voted;
    sealed = sound.sealed;
    backed = λ es h e k. backed-grown w (with_made w l t) ((grown-keeps s w).makes w l t digest (grown-same w)) e (sound.backed es h e k);
  }
    where
      made : (x : Made) → Has w.txs x ⊎ (t ≡ x) → x.digest ≡ transaction_digest x.signed.tx
      made x (inl h) = sound.made x h
      made x (inr e) = subst (λ (y : Made). y.digest ≡ transaction_digest y.signed.tx) e digest

  has-collected : (said : List Said) (t : Made) (ms : List ℕ) (x : MemberSeal) → Has (map (collected_seal said t) ms) x → Has ms x.member × (x ≡ collected_seal said t x.member)
  has-collected said t [] x h = absurd h
  has-collected said t (m ∷ ms) x (inl e) = (inl (ap (λ (y : MemberSeal). y.member) e), subst (λ (y : MemberSeal). y ≡ collected_seal said t y.member) e refl)
  has-collected said t (m ∷ ms) x (inr h) = let rest = has-collected said t ms x h in (inr rest.0, rest.1)

  sound-forms : (w : World) (t : Made) (ms : List ℕ) → Has w.txs t → votes_collected s w t ms ≡ whole → IsSound s w → IsSound s (with_formed w t ms)
  sound-forms w t ms h e sound = record {
    made = sound.made;
    told = sound.told;
    voted = λ f k x l. voted f x l (has-push w.certs _ f k);
    sealed = λ f k x l. sealed f x l (has-push w.certs _ f k);
    backed = λ es k y l. backed-grown w (with_formed w t ms) ((grown-keeps s w).forms w t ms h e (grown-same w)) y (sound.backed es k y l);
  }
    where
      new : Formed
      new = record { name = t.name; cert = certificate_of w.said t (first_origins w t ms) ms }

      vote : Statement
      vote = vote_statement t.signed.tx t.digest (first_origins w t ms)

      -- what is collected is the seal with which the member stated its last vote
      seal-is : (x : MemberSeal) → Has new.cert.seals x → x.seal ≡ member_seal s x.member vote
      seal-is x l =
          let is = has-collected w.said t ms x l in
          ap (λ (y : MemberSeal). y.seal) is.1
          ∙ ap (λ (o : Option (Option Digest)). digest_or_zero (option_and_then the_seal o))
          (sealed-read s t.signed.tx.epoch t.digest x.member w.said sound.told
          ∙ ap (λ (o : Option (List (Option Digest))). option_map (vote_seal s t.signed.tx.epoch t.digest x.member) o) (firsts s w t ms x.member e is.0))

      stated-so : (x : MemberSeal) → Has new.cert.seals x → HasSaid w x.member vote → Has w.said (said_under x.seal x.member vote)
      stated-so x l (seal, k) =
          subst (λ (y : Said). Has w.said y) (sound.told (record { member = x.member; statement = vote; seal = seal }) k ∙ ap (λ (d : Digest). said_under d x.member vote) (sym (seal-is x l))) k

      by : (x : MemberSeal) → Has new.cert.seals x → Has w.said (said_under x.seal x.member (vote_of new.cert))
      by x l =
          subst (λ (d : Digest). Has w.said (said_under x.seal x.member (vote_statement t.signed.tx d (first_origins w t ms)))) (sound.made t h)
          (stated-so x l (collected-said s w t ms x.member e (has-collected w.said t ms x l).0))

      voted : (f : Formed) (x : MemberSeal) → Has f.cert.seals x → Has w.certs f ⊎ (new ≡ f) → Has w.said (said_under x.seal x.member (vote_of f.cert))
      voted f x l (inl k) = sound.voted f k x l
      voted f x l (inr q) = subst (λ (g : Formed). Has g.cert.seals x → Has w.said (said_under x.seal x.member (vote_of g.cert))) q (by x) l

      own : (x : MemberSeal) → Has new.cert.seals x → x.seal ≡ member_seal s x.member (vote_of new.cert)
      own x l = subst (λ (d : Digest). x.seal ≡ member_seal s x.member (vote_statement t.signed.tx d (first_origins w t ms))) (sound.made t h) (seal-is x l)

      sealed : (f : Formed) (x : MemberSeal) → Has f.cert.seals x → Has w.certs f ⊎ (new ≡ f) → x.seal ≡ member_seal s x.member (vote_of f.cert)
      sealed f x l (inl k) = sound.sealed f k x l
      sealed f x l (inr q) = subst (λ (g : Formed). Has g.cert.seals x → x.seal ≡ member_seal s x.member (vote_of g.cert)) q (own x) l

  pub sound-keeps : Keeps s (λ _ _. Unit {0}) (IsSound s)
  sound-keeps = record {
    calls = λ w m call _ sound. sound-called w m call sound;
    lies = λ w m st faulty of_made sound. sound-says w m st faulty of_made sound;
    seats = λ w m seat new at same records sound. sound-as s w (with_seat w m new) (grown-seat w m seat new at same) refl refl refl sound.told sound;
    enters = λ w e backed sound. sound-enters w e backed sound;
    rises = λ w sound. sound-rises w sound;
    makes = λ w l t digest sound. sound-makes w l t digest sound;
    forms = λ w t ms h e sound. sound-forms w t ms h e sound;
  }
