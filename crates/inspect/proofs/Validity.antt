-- What is known of a valid certificate, only by the stakes and the seals.
use Rattle.std.proofs.Common.{◌≡◌, ℕ, Bool, true, false, List, [], ◌∷◌, Option, Some, None, is_some, refl, sym, ap}
use Rattle.std.specs.Prelude.{not}
use Rattle.digest_core.specs.declared.Digest.{Digest}
use Rattle.quorum_core.specs.declared.signer.Signer.{Signer}
use Rattle.quorum_core.specs.Committee.{is_roll}
use Rattle.chain_messages.specs.declared.messages.Certificate.{Certificate}
use Rattle.chain_types.specs.declared.refusals.CertRefusal.{CertRefusal}
use Rattle.chain_types.specs.declared.refusals.CertRefusal.TheVariants as refused
use Rattle.schedule_text.specs.declared.words.Event.{Event}
use Rattle.protocol_spec.specs.Chain.Certificates.{cert_refusal, members_of, rules_of}
use Rattle.protocol_spec.specs.Chain.Words.{first_some, where_true}
use Rattle.inspect.specs.Certified.{certified, is_valid}

abbrev Accepting : Type 0
Accepting = Signer → List ℕ → Digest → Bool

third : {A : Type 0} (a b x d e : Option A) → true ≡ not (is_some (first_some (a ∷ b ∷ x ∷ d ∷ e ∷ []))) → x ≡ None
third (Some y) b x d e h = absurd (cc)
third None (Some y) x d e h = absurd (cc)
third None None (Some y) d e h = absurd (cc)
third None None None d e h = refl

held : (b : Bool) → where_true (not b) refused.Order ≡ None → b ≡ true
held true h = refl
held false h = absurd (cc)

pub valid_roll : (stakes : List ℕ) (accepts : Accepting) (c : Certificate) → true ≡ is_valid (rules_of stakes None accepts) c → is_roll stakes (members_of c) ≡ true
unfolding cert_refusal
valid_roll stakes accepts c h = held (is_roll stakes (members_of c)) (third _ _ _ _ _ h)

-- the limit of writers plays no part
pub writers_aside : (stakes : List ℕ) (writers : Option ℕ) (accepts : Accepting) (formed : List Certificate) (events : List Event)
    → certified (rules_of stakes None accepts) formed events ≡ certified (rules_of stakes writers accepts) formed events
unfolding cert_refusal
writers_aside stakes writers accepts formed events = refl

pub no_refusal : (o : Option CertRefusal) → o ≡ None → true ≡ not (is_some o)
no_refusal o is = ap (λ (x : Option CertRefusal). not (is_some x)) (sym is)
