-- What a book finds, and what it is after one more certificate.
use Rattle.std.proofs.Common.{◌≡◌, ◌+◌, ℕ, Bool, true, false, cond, not, ◌||◌, List, [], ◌∷◌, ◌++◌, Option, Some, None, is_some, length, map, slice_get, refl, ap, sym, ◌∙◌, option_map, ltb, ◌≤◌, subst}
use Rattle.std.specs.Prelude.{find, position}
use Rattle.std.specs.List.{list_any, position_or_len}
use Rattle.std.specs.Map.{lookup}
use Rattle.std.proofs.lemmas.Bool.{ltb-false}
use Rattle.std.proofs.lemmas.List.{length-map, map-append}
use Rattle.std.proofs.lemmas.List.Folds.{find_at}
use Rattle.std.proofs.lemmas.Option.{slice_get_past}
use Rattle.digest_core.specs.declared.Digest.{Digest}
use Rattle.chain_types.specs.declared.objects.ObjectKey.{ObjectKey}
use Rattle.chain_types.specs.Equal.{digest_eq, key_eq}
use Rattle.chain_types.specs.Digests.{consumed_keys}
use Rattle.protocol_spec.proofs.Equality.{digest_turned, still_apart}
use Rattle.protocol_spec.specs.Chain.Words.{first_of, first_some, repeats}
use Rattle.protocol_spec.specs.declared.answers.Held.{Held}
use Rattle.protocol_spec.specs.Member.Checkpoints.{held_of}
use Rattle.protocol_spec.specs.Member.Member.{consumes, fork_in}
use Rattle.vote_rules.specs.declared.certificate_store.Fork.{Fork as Sides}
use Rattle.vote_rules.specs.Holders.{IsKept, at_place, cert_of, digest_of, fork_by, meets, sides, with_holders}
use Rattle.vote_rules.proofs.Forks.{fork_more, holder_more}

-- ---- look-ups

-- a digest is among those of what is held if a search finds it
listed : (hs : List Held) (tx : Digest) → list_any (digest_eq tx) (map digest_of hs) ≡ is_some (held_of hs tx)
listed [] tx = refl
listed (h ∷ hs) tx = ap (λ b. b || list_any (digest_eq tx) (map digest_of hs)) (digest_turned tx h.digest) ∙ by (digest_eq h.digest tx) (listed hs tx)
  where
    by : (b : Bool) → list_any (digest_eq tx) (map digest_of hs) ≡ is_some (held_of hs tx)
        → (b || list_any (digest_eq tx) (map digest_of hs)) ≡ is_some (cond b (Some h) (held_of hs tx))
    by true more = refl
    by false more = more

pub has : (digests : List Digest) (items held : List Held) (tx : Digest) → digests ≡ map digest_of items → items ≡ held → list_any (digest_eq tx) digests ≡ is_some (held_of held tx)
has digests items held tx are view = ap (list_any (digest_eq tx)) (are ∙ ap (map digest_of) view) ∙ listed held tx

-- a transaction of which none is held is not among the digests
pub is_new : {digests ds : List Digest} {items held : List Held} (tx : Digest) → ds ≡ digests → digests ≡ map digest_of items → items ≡ held → is_some (held_of held tx) ≡ false → list_any (digest_eq tx) ds ≡ false
is_new {digests} {ds} {items} {held} tx same are view new = ap (list_any (digest_eq tx)) same ∙ has digests items held tx are view ∙ new

abbrev is_of : Digest → Held → Bool
is_of tx h = digest_eq tx h.digest

same_search : (hs : List Held) (tx : Digest) → find (is_of tx) hs ≡ held_of hs tx
same_search [] tx = refl
same_search (h ∷ hs) tx =
    ap (λ o. cond (digest_eq tx h.digest) (Some h) o) (same_search hs tx)
    ∙ ap (λ b. cond b (Some h) (held_of hs tx)) (digest_turned tx h.digest)

same_place : (hs : List Held) (tx : Digest) → position_or_len (digest_eq tx) (map digest_of hs) ≡ position_or_len (is_of tx) hs
same_place [] tx = refl
same_place (h ∷ hs) tx = ap (λ n. cond (not (digest_eq tx h.digest)) (1 + n) 0) (same_place hs tx)

-- what is held at the place of a digest is what a search finds
pub found : (hs : List Held) (tx : Digest) → at_place hs (position (digest_eq tx) (map digest_of hs)) ≡ held_of hs tx
found hs tx = by (ltb n (length (map digest_of hs))) refl ∙ at_n
  where
    n : ℕ
    n = position_or_len (digest_eq tx) (map digest_of hs)

    at_n : slice_get hs n ≡ held_of hs tx
    at_n = ap (slice_get hs) (same_place hs tx) ∙ sym (find_at (is_of tx) hs) ∙ same_search hs tx

    by : (b : Bool) → ltb n (length (map digest_of hs)) ≡ b → at_place hs (cond b (Some n) None) ≡ slice_get hs n
    by true is = refl
    by false is = sym (slice_get_past hs n (subst (λ k. k ≤ n) (length-map hs digest_of) (ltb-false n (length (map digest_of hs)) is)))

pub found_cert : (hs : List Held) (tx : Digest) → option_map cert_of (at_place hs (position (digest_eq tx) (map digest_of hs))) ≡ option_map cert_of (held_of hs tx)
found_cert hs tx = ap (option_map cert_of) (found hs tx)

-- ---- one more certificate

-- of a transaction of which none is held: what is held after it, and that all is kept
module _ (items : List Held) (digests : List Digest) (holders : List (ObjectKey × Digest)) (held : List Held) (h : Held) {after : List Held} {noted : List Digest} {holding : List (ObjectKey × Digest)} {fork now : Option Sides}
    (kept : IsKept items digests holders fork) (view : items ≡ held) (new : is_some (held_of held h.digest) ≡ false)
    (after_is : after ≡ items ++ h ∷ []) (noted_is : noted ≡ digests ++ h.digest ∷ []) (holding_is : holding ≡ with_holders h.digest holders (consumed_keys h.cert.tx))
    (now_is : now ≡ first_some (option_map sides (fork_in [] held) ∷ fork_by h.digest (first_of (meets held) (consumed_keys h.cert.tx)) ∷ [])) where
  one_more : after ≡ held ++ h ∷ []
  one_more = after_is ∙ ap (λ hs. hs ++ h ∷ []) view

  listed_after : map digest_of after ≡ digests ++ h.digest ∷ []
  listed_after = ap (map digest_of) after_is ∙ map-append digest_of items (h ∷ []) ∙ ap (λ ds. ds ++ h.digest ∷ []) (sym kept.digests_of)

  both : IsKept after noted holding now × (after ≡ held ++ h ∷ [])
  both = (
    record {
      digests_of = noted_is ∙ sym listed_after;
      apart =
          ap (repeats digest_eq) listed_after
          ∙ still_apart digests h.digest (ap (repeats digest_eq) kept.digests_of ∙ kept.apart) (has digests items held h.digest kept.digests_of view ∙ new);
      first_holder = λ key.
          ap (lookup (key_eq key)) holding_is
          ∙ holder_more holders held h (λ k. kept.first_holder k ∙ ap (λ hs. option_map digest_of (find (consumes k) hs)) view) key
          ∙ sym (ap (λ hs. option_map digest_of (find (consumes key) hs)) one_more);
      first_fork = now_is ∙ fork_more held h ∙ sym (ap (λ hs. option_map sides (fork_in [] hs)) one_more);
    },
    one_more,
  )

-- the book after one more certificate, for which room was made everywhere
pub held_more : (items : List Held) (digests : List Digest) (holders : List (ObjectKey × Digest)) (held : List Held) (h : Held)
    {mid after : List Held} {ds noted : List Digest} {between holding : List (ObjectKey × Digest)} {looked entered : List ObjectKey} {fork now : Option Sides}
    → IsKept items digests holders fork → items ≡ held → is_some (held_of held h.digest) ≡ false
    → looked ≡ consumed_keys h.cert.tx → entered ≡ consumed_keys h.cert.tx
    → mid ≡ items → after ≡ mid ++ h ∷ []
    → ds ≡ digests → noted ≡ ds ++ h.digest ∷ []
    → between ≡ holders → holding ≡ with_holders h.digest between entered
    → now ≡ first_some (option_map sides (fork_in [] held) ∷ fork_by h.digest (first_of (meets held) looked) ∷ [])
    → IsKept after noted holding now × (after ≡ held ++ h ∷ [])
held_more items digests holders held h {mid} {after} {ds} {noted} {between} {holding} {looked} {entered} kept view new looked_are entered_are mid_is after_is ds_are noted_is between_is holding_is now_is =
    both items digests holders held h kept view new
    (after_is ∙ ap (λ hs. hs ++ h ∷ []) mid_is)
    (noted_is ∙ ap (λ xs. xs ++ h.digest ∷ []) ds_are)
    (holding_is ∙ ap (λ es. with_holders h.digest es entered) between_is ∙ ap (with_holders h.digest holders) entered_are)
    (now_is ∙ ap (λ ks. first_some (option_map sides (fork_in [] held) ∷ fork_by h.digest (first_of (meets held) ks) ∷ [])) looked_are)
