-- The rows of a list: how they grow, and that they name each seal.
use Rattle.std.proofs.Common.{arith, subst, take, drop, get_or, ◌≡◌, ◌∙◌, ◌≤◌, ◌+◌, ◌++◌, ℕ, Bool, true, false, List, [], ◌∷◌, refl, sym, ap, length, append_assoc}
use Rattle.std.specs.Prelude.{◌||◌, map}
use Rattle.std.specs.List.{list_any}
use Rattle.std.proofs.lemmas.Bool.{and_from, eq-eqb}
use Rattle.std.proofs.lemmas.List.{length-append}
use Rattle.std.proofs.lemmas.List.Folds.{list_any-append}
use Rattle.std.proofs.lemmas.Slice.Eq.{bytes_eq-Decides}
use Rattle.std.proofs.Math.Seq.{drop-append_seam, take-append_seam}
use Rattle.wire_bcs.specs.Codec.{Codec}
use Rattle.quorum_core.specs.declared.signer.Signer.TheVariants as signers
use Rattle.chain_messages.specs.declared.messages.MemberSeal.{MemberSeal}
use Rattle.protocol_spec.specs.Chain.Words.{Each}
use Rattle.light_check.specs.Certified.{IsAccepted}
use Rattle.light_client.specs.declared.accepted.SealRow.{SealRow}
use Rattle.light_client.specs.declared.listing.Listing.{Listing}
use Rattle.light_client.specs.Accepted.{accepted_in, names_seal}
use Rattle.light_client.specs.Listing.{AllAccepted, Lists, Under, listed, row_at, rows_from, statements_in}

-- ---- the first of a list

pub next_of_each : {A : Type 0} (P : A → Type 0) (rest : List A) (x : A) → x ≡ get_or rest 0 x → 1 ≤ length rest → Each P rest → P x
next_of_each P [] x first some each = absurd (omega (arith, some))
next_of_each P (y ∷ ys) x first some each = subst P (sym first) each.0

-- ---- how a list grows

-- what is listed so far, and what is left of all
pub record SoFar {A : Type 0} (of : A → Under) (all : List A) (listing : Listing) (rest : List A) : Type 0 where
  pub rows : listing.rows ++ rows_from (length listing.statements) (map of rest) ≡ rows_from 0 (map of all)
  pub statements : listing.statements ++ statements_in (map of rest) ≡ statements_in (map of all)

-- ---- what it accepts

or_second : (a b : Bool) → b ≡ true → (a || b) ≡ true
or_second true b h = refl
or_second false b h = h

or_first : (a b : Bool) → a ≡ true → (a || b) ≡ true
or_first true b h = refl
or_first false b h = absurd (cc)

-- a row names the seal that it is of
names_own : (before statement behind : List ℕ) (s : MemberSeal) → names_seal (before ++ (statement ++ behind)) (signers.Member s.member) statement s.seal (row_at (length before) statement s) ≡ true
names_own before statement behind s =
    let piece : take (length statement) (drop (length before) (before ++ (statement ++ behind))) ≡ statement =
    ap (take (length statement)) (drop-append_seam before (statement ++ behind)) ∙ take-append_seam statement behind in
    and_from _ _ (eq-eqb s.member s.member refl) (and_from _ _ ((bytes_eq-Decides s.seal.0 s.seal.0).1 refl) ((bytes_eq-Decides _ statement).1 piece))

-- each seal on a statement is accepted if all rows of the statement are among the rows
is_named : (before statement behind : List ℕ) (seals : List MemberSeal) → (front rows : List SealRow)
    → Each (IsAccepted (accepted_in (front ++ (map (row_at (length before) statement) seals ++ rows)) (before ++ (statement ++ behind))) statement) seals
is_named before statement behind [] front rows = tt
is_named before statement behind (s ∷ seals) front rows =
    let test = names_seal (before ++ (statement ++ behind)) (signers.Member s.member) statement s.seal in
    let own = row_at (length before) statement s in
    let more = map (row_at (length before) statement) seals ++ rows in (
      list_any-append test front (own ∷ more) ∙ or_second (list_any test front) (list_any test (own ∷ more)) (or_first (test own) (list_any test more) (names_own before statement behind s)),
      subst (λ (all : List SealRow). Each (IsAccepted (accepted_in all (before ++ (statement ++ behind))) statement) seals) (append_assoc front (own ∷ []) more) (is_named before statement behind seals (front ++ own ∷ []) rows),
    )

all_from : (us : List Under) (front : List SealRow) (before : List ℕ) → AllAccepted (front ++ rows_from (length before) us) (before ++ statements_in us) us
all_from [] front before = tt
all_from (u ∷ us) front before =
    let own = map (row_at (length before) u.statement) u.seals in
    let size : length (before ++ u.statement) ≡ length before + length u.statement = length-append before u.statement in
    let rows : (front ++ own) ++ rows_from (length (before ++ u.statement)) us ≡ front ++ (own ++ rows_from (length before + length u.statement) us) =
    append_assoc front own _ ∙ ap (λ (n : ℕ). front ++ (own ++ rows_from n us)) size in
    let statements : (before ++ u.statement) ++ statements_in us ≡ before ++ (u.statement ++ statements_in us) = append_assoc before u.statement (statements_in us) in (
      is_named before u.statement (statements_in us) u.seals front (rows_from (length before + length u.statement) us),
      subst (λ (r : List SealRow). AllAccepted r (before ++ (u.statement ++ statements_in us)) us) rows
          (subst (λ (st : List ℕ). AllAccepted ((front ++ own) ++ rows_from (length (before ++ u.statement)) us) st us) statements (all_from us (front ++ own) (before ++ u.statement))),
    )

-- all that is listed is accepted with the list
pub all_listed : (us : List Under) → AllAccepted (rows_from 0 us) (statements_in us) us
all_listed us = all_from us [] []

pub lists : {A : Type 0} (codec : Codec A) (of : A → List Under) (bytes : List ℕ) (x : A) (l : Listing) → (bytes ≡ codec.spell x) × codec.fits x → l ≡ listed (of x) → Lists codec of bytes l
lists codec of bytes x l spelled is = record {
  value = x;
  spelled = spelled.0;
  fits = spelled.1;
  all = subst (λ (m : Listing). AllAccepted m.rows m.statements (of x)) (sym is) (all_listed (of x));
}
