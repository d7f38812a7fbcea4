-- What the books find, and what they are after one more row.
use Rattle.std.proofs.Common.{◌≡◌, ◌∙◌, ap, sym, refl, ℕ, ◌&&◌, ◌==◌, Bool, true, false, cond, List, [], ◌∷◌, ◌++◌, length, Option, Some, None, option_map, slice_get, subst, Vec, Global}
use Rattle.std.specs.Prelude.{bytes_eq, nat_eq, option_and_then}
use Rattle.std.specs.Map.{lookup}
use Rattle.indexmap.specs.IndexMap.{insert_entry}
use Rattle.std.proofs.lemmas.Slice.Eq.{bytes_eq-Decides}
use Rattle.std.proofs.lemmas.Bool.{eq-eqb, eqb-true}
use Rattle.std.proofs.lemmas.Bool.Decides.{same_from_decides}
use Rattle.digest_core.specs.declared.Digest.{Digest}
use Rattle.chain_types.specs.Equal.{digest_eq}
use Rattle.chain_messages.specs.declared.messages.Statement.{Statement}
use Rattle.chain_messages.specs.declared.messages.Statement.TheVariants as statement
use Rattle.protocol_spec.proofs.Equality.{digest_same, bytes_turned, digest_self}
use Rattle.protocol_spec.proofs.Truth.{and_true}
use Rattle.protocol_spec.specs.Chain.Words.{first_some, last_where, where_true}
use Rattle.world_spec.specs.World.{Said, Formed}
use Rattle.world_spec.specs.Names.{cert_in}
use Rattle.world_spec.specs.Step.{ack_in, end_in, last_said, says_of, vote_in, last_read, last_seal, of_statement, seal_in, the_seal}
use Rattle.world_lines.specs.declared.said.SaidRow.{SaidRow}
use Rattle.world_lines.specs.declared.stated.AckKey.{AckKey}
use Rattle.world_lines.specs.declared.stated.LastPlaces.{LastPlaces}
use Rattle.world_lines.specs.declared.stated.VoteKey.{VoteKey}
use Rattle.world_lines.specs.declared.formed.FormedRow.{FormedRow}
use Rattle.world_lines.specs.Places.{LastPlaced, last_place}
use Rattle.world_lines.specs.Keys.{AreLast, Notes, ack_key, ack_key_eq, is_key, is_keyed, key_of_ack, key_of_end, key_of_vote, vote_key, vote_key_eq, with_place}
use Rattle.world_lines.specs.Rows.{formed_as, formed_list, is_named, row_cert, row_effects, row_end, row_origins, said_as, said_list, row_seal}
use Rattle.world_lines.proofs.Places.{found, placed_more, placed_same}

silent : {A : Type 0} → (b : Bool) → cond b (let o : Option A = None in o) None ≡ None
silent true = refl
silent false = refl

-- ---- what a member stated last is what its last row says

-- a row says nothing of this, or it is of the key and says this
data Says {A : Type 0} (reads : Said → Option A) (m : ℕ) (is : SaidRow → Bool) (value : SaidRow → Option A) (r : SaidRow) : Type 0 where
  nothing : says_of reads m (said_as r) ≡ None → is r ≡ false → Says reads m is value r
  this : (x : A) → says_of reads m (said_as r) ≡ Some x → is r ≡ true → value r ≡ Some x → Says reads m is value r

-- a list of rows says nothing of this, or its last row of the key says this
data Lasts {A : Type 0} (reads : Said → Option A) (m : ℕ) (is : SaidRow → Bool) (value : SaidRow → Option A) (rows : List SaidRow) : Type 0 where
  none_said : last_read reads m (said_list rows) ≡ None → last_where is rows ≡ None → Lasts reads m is value rows
  one_said : (r : SaidRow) (x : A) → last_read reads m (said_list rows) ≡ Some x → last_where is rows ≡ Some r → value r ≡ Some x → Lasts reads m is value rows

module _ {A : Type 0} (reads : Said → Option A) (m : ℕ) (is : SaidRow → Bool) (value : SaidRow → Option A) (says : (r : SaidRow) → Says reads m is value r) where
  lasts : (rows : List SaidRow) → Lasts reads m is value rows
  lasts [] = none_said refl refl
  lasts (r ∷ rows) = go (lasts rows) (says r)
    where
      onto_said : Option A → Option A
      onto_said o = first_some (o ∷ says_of reads m (said_as r) ∷ [])

      onto_row : Option SaidRow → Option SaidRow
      onto_row o = first_some (o ∷ where_true (is r) r ∷ [])

      go : Lasts reads m is value rows → Says reads m is value r → Lasts reads m is value (r ∷ rows)
      go (one_said y x s w e) here = one_said y x (ap onto_said s) (ap onto_row w) e
      go (none_said s w) (nothing p q) =
          none_said (ap onto_said s ∙ ap (λ o. first_some (o ∷ [])) p) (ap onto_row w ∙ ap (λ b. first_some (where_true b r ∷ [])) q)
      go (none_said s w) (this x p q e) =
          one_said r x (ap onto_said s ∙ ap (λ o. first_some (o ∷ [])) p) (ap onto_row w ∙ ap (λ b. first_some (where_true b r ∷ [])) q) e

  last_row : (rows : List SaidRow) → option_and_then value (last_where is rows) ≡ last_read reads m (said_list rows)
  last_row rows = go (lasts rows)
    where
      go : Lasts reads m is value rows → option_and_then value (last_where is rows) ≡ last_read reads m (said_list rows)
      go (none_said s w) = ap (option_and_then value) w ∙ sym s
      go (one_said r x s w e) = ap (option_and_then value) w ∙ e ∙ sym s

  -- what stands at the place that is kept
  row_found : (rows : List SaidRow) {said : List Said} {lent : List SaidRow} {place : Option ℕ} → said_list rows ≡ said → lent ≡ rows → place ≡ last_place is rows
      → option_and_then value (option_and_then (slice_get lent) place) ≡ last_read reads m said
  row_found rows {place = place} view same at =
      ap (λ xs. option_and_then value (option_and_then (slice_get xs) place)) same
      ∙ ap (λ o. option_and_then value (option_and_then (slice_get rows) o)) at
      ∙ ap (option_and_then value) (found is rows)
      ∙ last_row rows
      ∙ ap (last_read reads m) view

-- ---- votes, Ends and acknowledgements

abbrev of_vote : VoteKey → SaidRow → Bool
of_vote = is_keyed vote_key_eq key_of_vote

abbrev of_end : ℕ → SaidRow → Bool
of_end = is_keyed nat_eq key_of_end

abbrev of_ack : AckKey → SaidRow → Bool
of_ack = is_keyed ack_key_eq key_of_ack

vote_says : (m epoch : ℕ) (tx : Digest) (n : ℕ) (st : Statement) (d : Option Digest) → Says (of_statement (vote_in epoch tx)) m (of_vote (vote_key m epoch tx)) row_origins (record { member = n; statement = st; seal = d })
vote_says m epoch tx n (statement.Vote e t named) d = by (n == m) (e == epoch) (digest_eq t tx) refl refl refl
  where
    says : (a b c : Bool) → (n == m) ≡ a → (e == epoch) ≡ b → digest_eq t tx ≡ c
        → says_of (of_statement (vote_in epoch tx)) m (record { member = n; statement = statement.Vote e t named; seal = d }) ≡ cond a (where_true (b && c) named) None
    says a b c p q r =
        ap (λ x. cond x (where_true ((e == epoch) && digest_eq t tx) named) None) p
        ∙ ap (λ x. cond a (where_true (x && digest_eq t tx) named) None) q
        ∙ ap (λ x. cond a (where_true (b && x) named) None) r

    keyed : (a b c : Bool) → (n == m) ≡ a → (e == epoch) ≡ b → digest_eq t tx ≡ c
        → of_vote (vote_key m epoch tx) (record { member = n; statement = statement.Vote e t named; seal = d }) ≡ (a && b && c)
    keyed a b c p q r =
        ap (λ x. x && (e == epoch) && digest_eq t tx) p
        ∙ ap (λ x. a && x && digest_eq t tx) q
        ∙ ap (λ x. a && b && x) r

    by : (a b c : Bool) → (n == m) ≡ a → (e == epoch) ≡ b → digest_eq t tx ≡ c
        → Says (of_statement (vote_in epoch tx)) m (of_vote (vote_key m epoch tx)) row_origins (record { member = n; statement = statement.Vote e t named; seal = d })
    by true true true p q r = this named (says true true true p q r) (keyed true true true p q r) refl
    by true true false p q r = nothing (says true true false p q r) (keyed true true false p q r)
    by true false c p q r = nothing (says true false c p q r) (keyed true false c p q r)
    by false b c p q r = nothing (says false b c p q r) (keyed false b c p q r)
vote_says m epoch tx n (statement.End e) d = nothing (silent (n == m)) refl
vote_says m epoch tx n (statement.Checkpoint e number digest) d = nothing (silent (n == m)) refl
vote_says m epoch tx n (statement.Ack e t effects) d = nothing (silent (n == m)) refl

end_says : (m n : ℕ) (st : Statement) (d : Option Digest) → Says (of_statement end_in) m (of_end m) row_end (record { member = n; statement = st; seal = d })
end_says m n (statement.Vote epoch t named) d = nothing (silent (n == m)) refl
end_says m n (statement.End epoch) d = by (n == m) refl
  where
    by : (a : Bool) → (n == m) ≡ a → Says (of_statement end_in) m (of_end m) row_end (record { member = n; statement = statement.End epoch; seal = d })
    by true p = this epoch (ap (λ a. cond a (let o : Option ℕ = Some epoch in o) None) p) p refl
    by false p = nothing (ap (λ a. cond a (let o : Option ℕ = Some epoch in o) None) p) p
end_says m n (statement.Checkpoint epoch number digest) d = nothing (silent (n == m)) refl
end_says m n (statement.Ack epoch t effects) d = nothing (silent (n == m)) refl

ack_says : (m epoch : ℕ) (tx : Digest) (n : ℕ) (st : Statement) (d : Option Digest) → Says (of_statement (ack_in epoch tx)) m (of_ack (ack_key m epoch tx)) row_effects (record { member = n; statement = st; seal = d })
ack_says m epoch tx n (statement.Vote e t named) d = nothing (silent (n == m)) refl
ack_says m epoch tx n (statement.End e) d = nothing (silent (n == m)) refl
ack_says m epoch tx n (statement.Checkpoint e number digest) d = nothing (silent (n == m)) refl
ack_says m epoch tx n (statement.Ack e t effects) d = by (n == m) (e == epoch) (digest_eq t tx) refl refl refl
  where
    says : (a b c : Bool) → (n == m) ≡ a → (e == epoch) ≡ b → digest_eq t tx ≡ c
        → says_of (of_statement (ack_in epoch tx)) m (record { member = n; statement = statement.Ack e t effects; seal = d }) ≡ cond a (where_true (b && c) effects) None
    says a b c p q r =
        ap (λ x. cond x (where_true ((e == epoch) && digest_eq t tx) effects) None) p
        ∙ ap (λ x. cond a (where_true (x && digest_eq t tx) effects) None) q
        ∙ ap (λ x. cond a (where_true (b && x) effects) None) r

    keyed : (a b c : Bool) → (n == m) ≡ a → (e == epoch) ≡ b → digest_eq t tx ≡ c
        → of_ack (ack_key m epoch tx) (record { member = n; statement = statement.Ack e t effects; seal = d }) ≡ (a && b && c)
    keyed a b c p q r =
        ap (λ x. x && (e == epoch) && digest_eq t tx) p
        ∙ ap (λ x. a && x && digest_eq t tx) q
        ∙ ap (λ x. a && b && x) r

    by : (a b c : Bool) → (n == m) ≡ a → (e == epoch) ≡ b → digest_eq t tx ≡ c
        → Says (of_statement (ack_in epoch tx)) m (of_ack (ack_key m epoch tx)) row_effects (record { member = n; statement = statement.Ack e t effects; seal = d })
    by true true true p q r = this effects (says true true true p q r) (keyed true true true p q r) refl
    by true true false p q r = nothing (says true true false p q r) (keyed true true false p q r)
    by true false c p q r = nothing (says true false c p q r) (keyed true false c p q r)
    by false b c p q r = nothing (says false b c p q r) (keyed false b c p q r)

pub vote_found : (m epoch : ℕ) (tx : Digest) (rows : List SaidRow) (places : LastPlaces) {said : List Said} {lent : List SaidRow} {place : Option ℕ}
    → AreLast rows places → said_list rows ≡ said → lent ≡ rows → place ≡ lookup (vote_key_eq (vote_key m epoch tx)) places.votes.entries
    → option_and_then row_origins (option_and_then (slice_get lent) place) ≡ last_said (vote_in epoch tx) m said
vote_found m epoch tx rows places placed view same at =
    row_found (of_statement (vote_in epoch tx)) m (of_vote (vote_key m epoch tx)) row_origins (λ r. vote_says m epoch tx r.member r.statement r.seal) rows view same (at ∙ placed.votes (vote_key m epoch tx))

if_mapped : {A B : Type 0} (f : A → B) (o : Option A) (b : Bool) → cond b (option_map f o) None ≡ option_map f (cond b o None)
if_mapped f o true = refl
if_mapped f o false = refl

-- the seal of a vote stands in its row
seal_says : (m epoch : ℕ) (tx : Digest) (r : SaidRow) → Says (seal_in epoch tx) m (of_vote (vote_key m epoch tx)) row_seal r
seal_says m epoch tx r = go (vote_says m epoch tx r.member r.statement r.seal)
  where
    with_seal : List (Option Digest) → Option Digest
    with_seal origins = r.seal

    sealed : says_of (seal_in epoch tx) m (said_as r) ≡ option_map with_seal (says_of (of_statement (vote_in epoch tx)) m (said_as r))
    sealed = if_mapped with_seal (vote_in epoch tx r.statement) (r.member == m)

    go : Says (of_statement (vote_in epoch tx)) m (of_vote (vote_key m epoch tx)) row_origins r → Says (seal_in epoch tx) m (of_vote (vote_key m epoch tx)) row_seal r
    go (nothing p q) = nothing (sealed ∙ ap (option_map with_seal) p) q
    go (this origins p q e) = this r.seal (sealed ∙ ap (option_map with_seal) p) q refl

pub seal_found : (m epoch : ℕ) (tx : Digest) (rows : List SaidRow) (places : LastPlaces) {said : List Said} {lent : List SaidRow} {place : Option ℕ}
    → AreLast rows places → said_list rows ≡ said → lent ≡ rows → place ≡ lookup (vote_key_eq (vote_key m epoch tx)) places.votes.entries
    → option_and_then the_seal (option_and_then row_seal (option_and_then (slice_get lent) place)) ≡ last_seal epoch tx m said
seal_found m epoch tx rows places placed view same at =
    ap (option_and_then the_seal)
    (row_found (seal_in epoch tx) m (of_vote (vote_key m epoch tx)) row_seal (seal_says m epoch tx) rows view same (at ∙ placed.votes (vote_key m epoch tx)))

pub end_found : (m : ℕ) (rows : List SaidRow) (places : LastPlaces) {said : List Said} {lent : List SaidRow} {place : Option ℕ}
    → AreLast rows places → said_list rows ≡ said → lent ≡ rows → place ≡ lookup (nat_eq m) places.ends.entries
    → option_and_then row_end (option_and_then (slice_get lent) place) ≡ last_said end_in m said
end_found m rows places placed view same at =
    row_found (of_statement end_in) m (of_end m) row_end (λ r. end_says m r.member r.statement r.seal) rows view same (at ∙ placed.ends m)

pub ack_found : (m epoch : ℕ) (tx : Digest) (rows : List SaidRow) (places : LastPlaces) {said : List Said} {lent : List SaidRow} {place : Option ℕ}
    → AreLast rows places → said_list rows ≡ said → lent ≡ rows → place ≡ lookup (ack_key_eq (ack_key m epoch tx)) places.acks.entries
    → option_and_then row_effects (option_and_then (slice_get lent) place) ≡ last_said (ack_in epoch tx) m said
ack_found m epoch tx rows places placed view same at =
    row_found (of_statement (ack_in epoch tx)) m (of_ack (ack_key m epoch tx)) row_effects (λ r. ack_says m epoch tx r.member r.statement r.seal) rows view same (at ∙ placed.acks (ack_key m epoch tx))

-- ---- one more statement

-- a test of keys that says when two are one
module _ {K : Type 0} (equal : K → K → Bool) (one : (a b : K) → equal a b ≡ true → a ≡ b) (itself : (a : K) → equal a a ≡ true) where
  respects : (k a b : K) → equal a b ≡ true → equal k a ≡ equal k b
  respects k a b h = ap (equal k) (one a b h)

  meets : (k a b : K) → equal k a ≡ true → equal k b ≡ true → equal a b ≡ true
  meets k a b p q = subst (λ x. equal x b ≡ true) (one k a p) q

  both_ways : (a b : K) → equal a b ≡ equal b a
  both_ways a b =
      same_from_decides (equal a b) (equal b a) (one a b, λ e. subst (λ x. equal a x ≡ true) e (itself a)) ((λ h. sym (one b a h)), (λ e. subst (λ x. equal b x ≡ true) (sym e) (itself b)))

  placed_with : (key_of : ℕ → Statement → Option K) (rows : List SaidRow) (places : List (K × ℕ)) (m : ℕ) (st : Statement) (d : Option Digest) {ys : List SaidRow} {fs : List (K × ℕ)} {n : ℕ}
      → LastPlaced equal (is_keyed equal key_of) rows places → fs ≡ with_place equal places (key_of m st) n → n ≡ length rows → ys ≡ rows ++ record { member = m; statement = st; seal = d } ∷ []
      → LastPlaced equal (is_keyed equal key_of) ys fs
  placed_with key_of rows places m st d {ys} {fs} {n} placed puts last adds = by (key_of m st) refl puts
    where
      by : (o : Option K) → key_of m st ≡ o → fs ≡ with_place equal places o n → LastPlaced equal (is_keyed equal key_of) ys fs
      by None is puts =
          placed_same equal equal respects meets (is_keyed equal key_of) rows places (record { member = m; statement = st; seal = d }) placed puts adds (λ k. ap (is_key equal k) is)
      by (Some x) is puts =
          placed_more equal equal respects meets (is_keyed equal key_of) rows places (record { member = m; statement = st; seal = d }) placed puts last adds
          (λ k. both_ways k x ∙ sym (ap (is_key equal k) is))

one_vote_key : (a b : VoteKey) → vote_key_eq a b ≡ true → a ≡ b
one_vote_key a b h =
    let parts = and_true ((a.member == b.member) && (a.epoch == b.epoch)) (digest_eq a.tx b.tx) h in
    let numbers = and_true (a.member == b.member) (a.epoch == b.epoch) parts.0 in
    ap (λ (m : ℕ). vote_key m a.epoch a.tx) (eqb-true a.member b.member numbers.0)
    ∙ ap (λ (e : ℕ). vote_key b.member e a.tx) (eqb-true a.epoch b.epoch numbers.1)
    ∙ ap (vote_key b.member b.epoch) (digest_same a.tx b.tx parts.1)

vote_key_itself : (a : VoteKey) → vote_key_eq a a ≡ true
vote_key_itself a =
    ap (λ b. b && (a.epoch == a.epoch) && digest_eq a.tx a.tx) (eq-eqb a.member a.member refl)
    ∙ ap (λ b. b && digest_eq a.tx a.tx) (eq-eqb a.epoch a.epoch refl)
    ∙ digest_self a.tx

one_ack_key : (a b : AckKey) → ack_key_eq a b ≡ true → a ≡ b
one_ack_key a b h =
    let parts = and_true ((a.member == b.member) && (a.epoch == b.epoch)) (digest_eq a.tx b.tx) h in
    let numbers = and_true (a.member == b.member) (a.epoch == b.epoch) parts.0 in
    ap (λ (m : ℕ). ack_key m a.epoch a.tx) (eqb-true a.member b.member numbers.0)
    ∙ ap (λ (e : ℕ). ack_key b.member e a.tx) (eqb-true a.epoch b.epoch numbers.1)
    ∙ ap (ack_key b.member b.epoch) (digest_same a.tx b.tx parts.1)

ack_key_itself : (a : AckKey) → ack_key_eq a a ≡ true
ack_key_itself a =
    ap (λ b. b && (a.epoch == a.epoch) && digest_eq a.tx a.tx) (eq-eqb a.member a.member refl)
    ∙ ap (λ b. b && digest_eq a.tx a.tx) (eq-eqb a.epoch a.epoch refl)
    ∙ digest_self a.tx

pub said_more : (rows : List SaidRow) (places : LastPlaces) (m : ℕ) (st : Statement) (d : Option Digest) {ys : List SaidRow} {now : LastPlaces} {n : ℕ}
    → AreLast rows places → Notes places m st n now → n ≡ length rows → ys ≡ rows ++ record { member = m; statement = st; seal = d } ∷ [] → AreLast ys now
said_more rows places m st d placed notes last adds = record {
  votes = placed_with vote_key_eq one_vote_key vote_key_itself key_of_vote rows places.votes.entries m st d placed.votes notes.votes last adds;
  ends = placed_with nat_eq eqb-true (λ a. eq-eqb a a refl) key_of_end rows places.ends.entries m st d placed.ends notes.ends last adds;
  acks = placed_with ack_key_eq one_ack_key ack_key_itself key_of_ack rows places.acks.entries m st d placed.acks notes.acks last adds;
}

-- ---- certificates

abbrev name_same : List ℕ → Vec ℕ Global → Bool
name_same name k = bytes_eq name k.items

abbrev names_equal : Vec ℕ Global → Vec ℕ Global → Bool
names_equal a b = bytes_eq a.items b.items

pub last_formed : (name : List ℕ) (rows : List FormedRow) → option_map row_cert (last_where (is_named name) rows) ≡ option_map cert_in (last_where (λ (f : Formed). bytes_eq f.name name) (formed_list rows))
last_formed name [] = refl
last_formed name (r ∷ rows) = by (last_where (is_named name) rows) (last_where (λ (f : Formed). bytes_eq f.name name) (formed_list rows)) (bytes_eq r.name.value.items name) (last_formed name rows)
  where
    by : (o : Option FormedRow) (p : Option Formed) (b : Bool) → option_map row_cert o ≡ option_map cert_in p
        → option_map row_cert (first_some (o ∷ where_true b r ∷ [])) ≡ option_map cert_in (first_some (p ∷ where_true b (formed_as r) ∷ []))
    by None None true e = refl
    by None None false e = refl
    by (Some x) (Some y) b e = e
    by None (Some y) b e = absurd (cc)
    by (Some x) None b e = absurd (cc)

pub cert_found : (name : List ℕ) (rows : List FormedRow) (places : List (Vec ℕ Global × ℕ)) {formed : List Formed} {lent : List FormedRow} {place : Option ℕ}
    → LastPlaced name_same is_named rows places → formed_list rows ≡ formed → lent ≡ rows → place ≡ lookup (name_same name) places
    → option_map row_cert (option_and_then (slice_get lent) place) ≡ option_map cert_in (last_where (λ (f : Formed). bytes_eq f.name name) formed)
cert_found name rows places {place = place} placed view same at =
    ap (λ xs. option_map row_cert (option_and_then (slice_get xs) place)) same
    ∙ ap (λ o. option_map row_cert (option_and_then (slice_get rows) o)) (at ∙ placed name)
    ∙ ap (option_map row_cert) (found (is_named name) rows)
    ∙ last_formed name rows
    ∙ ap (λ fs. option_map cert_in (last_where (λ (f : Formed). bytes_eq f.name name) fs)) view

names_respect : (k : List ℕ) (a b : Vec ℕ Global) → names_equal a b ≡ true → name_same k a ≡ name_same k b
names_respect k a b h = ap (bytes_eq k) ((bytes_eq-Decides a.items b.items).0 h)

names_meet : (k : List ℕ) (a b : Vec ℕ Global) → name_same k a ≡ true → name_same k b ≡ true → names_equal a b ≡ true
names_meet k a b p q = subst (λ x. bytes_eq x b.items ≡ true) ((bytes_eq-Decides k a.items).0 p) q

pub formed_more : (rows : List FormedRow) (places : List (Vec ℕ Global × ℕ)) (r : FormedRow) (key : Vec ℕ Global) {ys : List FormedRow} {fs : List (Vec ℕ Global × ℕ)} {n : ℕ}
    → LastPlaced name_same is_named rows places → fs ≡ insert_entry names_equal places key n → key.items ≡ r.name.value.items → n ≡ length rows → ys ≡ rows ++ r ∷ []
    → LastPlaced name_same is_named ys fs
formed_more rows places r key placed puts of last adds =
    placed_more name_same names_equal names_respect names_meet is_named rows places r placed puts last adds (λ k. ap (bytes_eq k) of ∙ bytes_turned k r.name.value.items)
