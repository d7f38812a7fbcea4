-- What members that are asked say, and state then; the first of them that says something.
use Rattle.std.proofs.Common.{◌≡◌, ◌∙◌, ap, sym, refl, ℕ, Bool, List, [], ◌∷◌, ◌++◌, map, append-nil, Option, Some, None, option_map, Result}
use Rattle.std.specs.Prelude.{if◌then◌else◌, is_ok, option_and_then, true}
use Rattle.digest_core.specs.declared.Digest.{Digest}
use Rattle.quorum_core.specs.declared.signer.Signer.{Signer}
use Rattle.chain_messages.specs.declared.messages.Statement.{Statement}
use Rattle.protocol_spec.specs.declared.refusals.AckRefusal.{AckRefusal}
use Rattle.protocol_spec.specs.declared.refusals.EndRefusal.{EndRefusal}
use Rattle.protocol_spec.specs.Chain.Words.{first_some}
use Rattle.protocol_spec.specs.Chain.Certificates.{Rules}
use Rattle.protocol_spec.specs.Member.Member.{Member}
use Rattle.protocol_spec.specs.Member.Calls.{ack_answer, end_answer}
use Rattle.report_text.specs.declared.lines.AckText.{AckText}
use Rattle.report_text.specs.declared.lines.AckText.TheVariants as ack_text
use Rattle.report_text.specs.declared.lines.EndText.{EndText}
use Rattle.report_text.specs.declared.lines.EndText.TheVariants as end_text
use Rattle.world_spec.specs.World.{Said, answered_statement, said_by}
use Rattle.world_spec.specs.Report.{ack_answered, end_answered}
use Rattle.world_spec.specs.Known.{Known, world_with}
use Rattle.world_spec.specs.Terms.{Terms, rules_for}
use Rattle.world_spec.specs.Seats.{Seated, rules_of_seat}
use Rattle.world_spec.specs.Posts.{Post, seat_at}
use Rattle.world_spec.specs.SceneSteps.{seat_state}
use Rattle.world_core.specs.Steps.{says_in}
use Rattle.world_core.specs.Epochs.{ack_statements, ack_text_by, end_statements, end_text_by}

abbrev Accepting : Type 0
Accepting = Signer → List ℕ → Digest → Bool

-- ---- the members asked

module _ (accepts : Accepting) (terms : Terms) (m : ℕ) (seat : Seated) (standing : Option Seated) (is : Some seat ≡ standing) (placed : seat ≡ seat_at terms m seat.state) where
  rules_are : rules_of_seat seat accepts ≡ rules_for terms accepts
  rules_are = ap (λ (s : Seated). rules_for s.terms accepts) placed

  pub end_asked : (a : Result Statement EndRefusal) → a ≡ end_answer (rules_of_seat seat accepts) seat.state → Some a ≡ option_map (end_answer (rules_for terms accepts)) (option_map seat_state standing)
  end_asked a said =
      ap (λ (x : Result Statement EndRefusal). Some x) (said ∙ ap (λ (r : Rules). end_answer r seat.state) rules_are)
      ∙ ap (λ (s : Option Seated). option_map (end_answer (rules_for terms accepts)) (option_map seat_state s)) is

  pub end_able : is_ok (end_answer (rules_of_seat seat accepts) seat.state) ≡ true → option_map (λ (s : Member). is_ok (end_answer (rules_for terms accepts) s)) (option_map seat_state standing) ≡ Some true
  end_able ok =
      sym (ap (λ (s : Option Seated). option_map (λ (x : Member). is_ok (end_answer (rules_for terms accepts) x)) (option_map seat_state s)) is)
      ∙ ap (λ (r : Rules). Some (is_ok (end_answer r seat.state))) (sym rules_are)
      ∙ ap (λ (b : Bool). Some b) ok

  pub ack_asked : (tx : Digest) (a : Result Statement AckRefusal) → a ≡ ack_answer (rules_of_seat seat accepts) seat.state tx → Some a ≡ option_map (λ (s : Member). ack_answer (rules_for terms accepts) s tx) (option_map seat_state standing)
  ack_asked tx a said =
      ap (λ (x : Result Statement AckRefusal). Some x) (said ∙ ap (λ (r : Rules). ack_answer r seat.state tx) rules_are)
      ∙ ap (λ (s : Option Seated). option_map (λ (x : Member). ack_answer (rules_for terms accepts) x tx) (option_map seat_state s)) is

  pub ack_able : (tx : Digest) → is_ok (ack_answer (rules_of_seat seat accepts) seat.state tx) ≡ true → option_map (λ (s : Member). is_ok (ack_answer (rules_for terms accepts) s tx)) (option_map seat_state standing) ≡ Some true
  ack_able tx ok =
      sym (ap (λ (s : Option Seated). option_map (λ (x : Member). is_ok (ack_answer (rules_for terms accepts) x tx)) (option_map seat_state s)) is)
      ∙ ap (λ (r : Rules). Some (is_ok (ack_answer r seat.state tx))) (sym rules_are)
      ∙ ap (λ (b : Bool). Some b) ok

pub asked_none : {A : Type 0} (f : Member → A) (standing : Option Seated) → None ≡ standing → None ≡ option_map f (option_map seat_state standing)
asked_none f standing is = ap (λ (s : Option Seated). option_map f (option_map seat_state s)) is

-- ---- what is said of it

module _ (k : Known) (r : Rules) (m : ℕ) (state : Option Member) where
  pub end_by_none : None ≡ option_map (end_answer r) state → end_text.Down ≡ end_text_by k r state
  end_by_none is = go state is
    where
      go : (s : Option Member) → None ≡ option_map (end_answer r) s → end_text.Down ≡ end_text_by k r s
      go None e = refl
      go (Some x) e = absurd (cc)

  pub none_ends : (xs : List Said) → None ≡ option_map (end_answer r) state → xs ≡ xs ++ map (said_by m) (end_statements r state)
  none_ends xs is = go state is
    where
      go : (s : Option Member) → None ≡ option_map (end_answer r) s → xs ≡ xs ++ map (said_by m) (end_statements r s)
      go None e = sym (append-nil xs)
      go (Some x) e = absurd (cc)

  pub end_by_some : (a : Result Statement EndRefusal) (text : EndText) → Some a ≡ option_map (end_answer r) state → text ≡ end_answered (world_with k) a → text ≡ end_text_by k r state
  end_by_some a text is said = go state is
    where
      go : (s : Option Member) → Some a ≡ option_map (end_answer r) s → text ≡ end_text_by k r s
      go None e = absurd (cc)
      go (Some x) e = said ∙ ap (λ (y : Result Statement EndRefusal). end_answered (world_with k) y) (let same : Some a ≡ Some (end_answer r x) = e in cc)

  pub some_ends : (a : Result Statement EndRefusal) (xs ys : List Said) → Some a ≡ option_map (end_answer r) state → ys ≡ xs ++ map (said_by m) (answered_statement a) → ys ≡ xs ++ map (said_by m) (end_statements r state)
  some_ends a xs ys is said = go state is
    where
      go : (s : Option Member) → Some a ≡ option_map (end_answer r) s → ys ≡ xs ++ map (said_by m) (end_statements r s)
      go None e = absurd (cc)
      go (Some x) e = said ∙ ap (λ (y : Result Statement EndRefusal). xs ++ map (said_by m) (answered_statement y)) (let same : Some a ≡ Some (end_answer r x) = e in cc)

  module _ (tx : Digest) where
    abbrev answers : Member → Result Statement AckRefusal
    answers s = ack_answer r s tx

    pub ack_by_none : None ≡ option_map (λ (s : Member). ack_answer r s tx) state → ack_text.Down ≡ ack_text_by k r tx state
    ack_by_none is = go state is
      where
        go : (s : Option Member) → None ≡ option_map answers s → ack_text.Down ≡ ack_text_by k r tx s
        go None e = refl
        go (Some x) e = absurd (cc)

    pub none_acks : (xs : List Said) → None ≡ option_map (λ (s : Member). ack_answer r s tx) state → xs ≡ xs ++ map (said_by m) (ack_statements r tx state)
    none_acks xs is = go state is
      where
        go : (s : Option Member) → None ≡ option_map answers s → xs ≡ xs ++ map (said_by m) (ack_statements r tx s)
        go None e = sym (append-nil xs)
        go (Some x) e = absurd (cc)

    pub ack_by_some : (a : Result Statement AckRefusal) (text : AckText) → Some a ≡ option_map (λ (s : Member). ack_answer r s tx) state → text ≡ ack_answered (world_with k) a → text ≡ ack_text_by k r tx state
    ack_by_some a text is said = go state is
      where
        go : (s : Option Member) → Some a ≡ option_map answers s → text ≡ ack_text_by k r tx s
        go None e = absurd (cc)
        go (Some x) e = said ∙ ap (λ (y : Result Statement AckRefusal). ack_answered (world_with k) y) (let same : Some a ≡ Some (answers x) = e in cc)

    pub some_acks : (a : Result Statement AckRefusal) (xs ys : List Said) → Some a ≡ option_map (λ (s : Member). ack_answer r s tx) state → ys ≡ xs ++ map (said_by m) (answered_statement a) → ys ≡ xs ++ map (said_by m) (ack_statements r tx state)
    some_acks a xs ys is said = go state is
      where
        go : (s : Option Member) → Some a ≡ option_map answers s → ys ≡ xs ++ map (said_by m) (ack_statements r tx s)
        go None e = absurd (cc)
        go (Some x) e = said ∙ ap (λ (y : Result Statement AckRefusal). xs ++ map (said_by m) (answered_statement y)) (let same : Some a ≡ Some (answers x) = e in cc)

-- ---- the first that says something

module _ {A : Type 0} (says : Member → Option A) (p : Post) (posts : List Post) where
  none_first : (o : Option A) → first_some (None ∷ o ∷ []) ≡ o
  none_first None = refl
  none_first (Some x) = refl

  pub says_next : (if p.honest then option_and_then (λ (seat : Seated). says seat.state) p.standing else None) ≡ None → says_in says (p ∷ posts) ≡ says_in says posts
  says_next e = ap (λ (o : Option A). first_some (o ∷ says_in says posts ∷ [])) e ∙ none_first (says_in says posts)

  pub says_here : (x : A) → (if p.honest then option_and_then (λ (seat : Seated). says seat.state) p.standing else None) ≡ Some x → says_in says (p ∷ posts) ≡ Some x
  says_here x e = ap (λ (o : Option A). first_some (o ∷ says_in says posts ∷ [])) e
