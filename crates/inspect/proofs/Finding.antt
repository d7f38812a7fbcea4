-- The certificates that were found, with one more.
use Rattle.std.proofs.Common.{◌≡◌, ◌∙◌, ℕ, zero, suc, ◌+◌, Bool, true, false, ◌||◌, cond, List, [], ◌∷◌, ◌++◌, fold, map, drop, Option, Some, None, option_map, is_some, slice_get, refl, sym, ap, subst, add-one}
use Rattle.std.specs.Prelude.{bytes_eq}
use Rattle.std.specs.Map.{lookup}
use Rattle.chain_messages.specs.Messages as messages
use Rattle.chain_messages.specs.declared.messages.Certificate.{Certificate}
use Rattle.protocol_spec.proofs.ListLemmas.{any_last, each_push}
use Rattle.protocol_spec.specs.Chain.Certificates.{Rules}
use Rattle.world_spec.specs.Names.{cert_in}
use Rattle.world_spec.specs.World.{Formed}
use Rattle.tables.specs.Named.{Named, named, with_name}
use Rattle.inspect.specs.Certified.{with_valid}
use Rattle.inspect.specs.Found.{AreFound, IsSound}

-- ---- one certificate

named_more : (test : List ℕ → Bool) (spelled : Named (Unit {0})) (bytes : List ℕ) → is_some (lookup test (spelled ++ (bytes, tt) ∷ [])) ≡ (is_some (lookup test spelled) || test bytes)
named_more test [] bytes = go (test bytes)
  where
    go : (b : Bool) → (let o : Option (Unit {0}) = cond b (Some tt) None in is_some o) ≡ b
    go true = refl
    go false = refl
named_more test (e ∷ es) bytes = go (test e.0) (named_more test es bytes)
  where
    go : (b : Bool) → is_some (lookup test (es ++ (bytes, tt) ∷ [])) ≡ (is_some (lookup test es) || test bytes) → is_some (cond b (Some e.1) (lookup test (es ++ (bytes, tt) ∷ []))) ≡ (is_some (cond b (Some e.1) (lookup test es)) || test bytes)
    go true more = refl
    go false more = more

pub found_more : (stakes : List ℕ) (certs : List Certificate) (spelled : Named (Unit {0})) (c : Certificate) → AreFound stakes certs spelled → IsSound stakes c
    → false ≡ is_some (named spelled (messages.certificate.spell c)) → AreFound stakes (certs ++ c ∷ []) (with_name spelled (messages.certificate.spell c) tt)
found_more stakes certs spelled c found sound apart =
    subst (λ b. AreFound stakes (certs ++ c ∷ []) (cond b spelled (spelled ++ (messages.certificate.spell c, tt) ∷ []))) apart (record {
      sound = each_push (IsSound stakes) certs c found.sound sound;
      names = λ d.
          named_more (bytes_eq (messages.certificate.spell d)) spelled (messages.certificate.spell c)
          ∙ ap (λ b. b || bytes_eq (messages.certificate.spell d) (messages.certificate.spell c)) (found.names d)
          ∙ sym (any_last (λ x. bytes_eq (messages.certificate.spell d) (messages.certificate.spell x)) certs c);
    })

-- a sound certificate that is not there is added: the new lists are given up to equality
pub found_pushed : (stakes : List ℕ) (certs certs' : List Certificate) (spelled spelled' : Named (Unit {0})) (c copy : Certificate) (bytes again : List ℕ) → AreFound stakes certs spelled → IsSound stakes c
    → copy ≡ c → bytes ≡ messages.certificate.spell c → again ≡ messages.certificate.spell c → false ≡ is_some (named spelled bytes) → spelled' ≡ with_name spelled again tt
    → certs' ≡ certs ++ copy ∷ [] → AreFound stakes certs' spelled'
found_pushed stakes certs certs' spelled spelled' c copy bytes again found sound same spells spells_again apart named_so pushed =
    subst (λ (xs : List Certificate). AreFound stakes xs spelled') (sym (pushed ∙ ap (λ (x : Certificate). certs ++ x ∷ []) same))
    (subst (λ (names : Named (Unit {0})). AreFound stakes (certs ++ c ∷ []) names) (sym (named_so ∙ ap (λ (b : List ℕ). with_name spelled b tt) spells_again))
    (found_more stakes certs spelled c found sound (apart ∙ ap (λ (b : List ℕ). is_some (named spelled b)) spells)))

-- ---- lines

-- the certificate that was formed at a place, and those after it
formed_at : (formed : List Formed) (n : ℕ) (c : Certificate) → option_map cert_in (slice_get formed n) ≡ Some c → map cert_in (drop n formed) ≡ c ∷ map cert_in (drop (suc n) formed)
formed_at [] n c at = absurd (cc)
formed_at (f ∷ formed) zero c at = let same : f.cert ≡ c = cc (at) in ap (λ (x : Certificate). x ∷ map cert_in formed) same
formed_at (f ∷ formed) (suc n) c at = formed_at formed n c at

formed_past : (formed : List Formed) (n : ℕ) → option_map cert_in (slice_get formed n) ≡ None → map cert_in (drop n formed) ≡ []
formed_past [] zero at = refl
formed_past [] (suc n) at = refl
formed_past (f ∷ formed) zero at = absurd (cc)
formed_past (f ∷ formed) (suc n) at = formed_past formed n at

pub one_formed : (r : Rules) (certs : List Certificate) (formed : List Formed) (n : ℕ) (c : Certificate) → option_map cert_in (slice_get formed n) ≡ Some c
    → fold (with_valid r) (with_valid r certs c) (map cert_in (drop (n + 1) formed)) ≡ fold (with_valid r) certs (map cert_in (drop n formed))
one_formed r certs formed n c at =
    ap (λ (k : ℕ). fold (with_valid r) (with_valid r certs c) (map cert_in (drop k formed))) (add-one n) ∙ sym (ap (fold (with_valid r) certs) (formed_at formed n c at))

pub all_formed : (r : Rules) (certs : List Certificate) (formed : List Formed) (n : ℕ) → option_map cert_in (slice_get formed n) ≡ None → certs ≡ fold (with_valid r) certs (map cert_in (drop n formed))
all_formed r certs formed n at = sym (ap (fold (with_valid r) certs) (formed_past formed n at))
