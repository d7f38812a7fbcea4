-- What is known of each object after one more that is admitted, and after a mark.
use Rattle.std.proofs.Common.{◌≡◌, ℕ, Bool, true, false, cond, ◌&&◌, ◌||◌, List, [], ◌∷◌, ◌++◌, Option, Some, None, map, refl, ap, sym, ◌∙◌, inl, inr, arith, ◌+◌, ◌<◌, ◌^◌, add-zero, zero-add}
use Rattle.std.proofs.lemmas.Bool.Decides.{nat_tests}
use Rattle.std.proofs.lemmas.List.Sums.{sum_by-append}
use Rattle.std.specs.Prelude.{nat_lt, count_by}
use Rattle.std.specs.List.{list_all, list_any}
use Rattle.digest_core.specs.declared.Digest.{Digest}
use Rattle.chain_types.specs.declared.objects.Object.{Object}
use Rattle.chain_types.specs.declared.objects.ObjectId.{ObjectId}
use Rattle.chain_types.specs.declared.objects.Producer.TheVariants as producers
use Rattle.chain_types.specs.Equal.{id_eq}
use Rattle.chain_messages.specs.declared.messages.Certificate.{Certificate}
use Rattle.protocol_spec.specs.declared.answers.Assigned.{Assigned}
use Rattle.protocol_spec.proofs.Equality.{id_same, id_self}
use Rattle.protocol_spec.specs.Chain.Words.{first_some}
use Rattle.protocol_spec.specs.Chain.Tests.{has_id}
use Rattle.protocol_spec.specs.Member.Admission.{Admitted, Standing, beginning_by, joined_inputs, writes}
use Rattle.version_assign.specs.declared.lines.Line.{Line}
use Rattle.version_assign.specs.Books.{begun_of, stands}
use Rattle.version_assign.specs.Lines.{LineMap, are_lined, filled, has_line, line_at, move_all, move_one, moved, one_more, standing_as}
use Rattle.version_assign.proofs.Lining.{KeepsLines, has_put, line_put}
use Rattle.version_assign.proofs.Naming.{Absent, Only, Spot, There, is_absent, is_there, mutables_of, of_id, standing_in}
use Rattle.version_assign.proofs.Standing.{now_stands, stands_push}

-- ---- lists of assigned versions, filled

filled_id : (lines : LineMap) (x : Assigned) → (filled lines x).id ≡ x.id
filled_id lines x = by (line_at lines x.id).standing
  where
    by : (o : Option Standing) → (standing_as x o).id ≡ x.id
    by None = refl
    by (Some s) = refl

pub filled_mutable : (lines : LineMap) (x : Assigned) → (filled lines x).mutable ≡ x.mutable
filled_mutable lines x = by (line_at lines x.id).standing
  where
    by : (o : Option Standing) → (standing_as x o).mutable ≡ x.mutable
    by None = refl
    by (Some s) = refl

pub any_filled : (lines : LineMap) (id : ObjectId) (xs : List Assigned) → list_any (of_id id) (map (filled lines) xs) ≡ list_any (of_id id) xs
any_filled lines id [] = refl
any_filled lines id (x ∷ xs) =
    ap (λ y. id_eq id y || list_any (of_id id) (map (filled lines) xs)) (filled_id lines x)
    ∙ ap (λ b. id_eq id x.id || b) (any_filled lines id xs)

only_filled : (lines : LineMap) (id : ObjectId) (x : Assigned) (xs : List Assigned) → Only id x xs → Only id (filled lines x) (map (filled lines) xs)
only_filled lines id x [] only = absurd only
only_filled lines id x (y ∷ ys) (inl here) = inl (ap (filled lines) here.0, any_filled lines id ys ∙ here.1)
only_filled lines id x (y ∷ ys) (inr later) = inr (ap (id_eq id) (filled_id lines y) ∙ later.0, only_filled lines id x ys later.1)

pub lined_filled : (lines es : LineMap) (xs : List Assigned) → are_lined es xs ≡ true → are_lined es (map (filled lines) xs) ≡ true
lined_filled lines es [] all = refl
lined_filled lines es (x ∷ xs) all = go (lined_filled lines es xs) (has_line es x.id) refl all
  where
    go : (are_lined es xs ≡ true → are_lined es (map (filled lines) xs) ≡ true) → (b : Bool) → has_line es x.id ≡ b → (b && are_lined es xs) ≡ true
        → (has_line es (filled lines x).id && are_lined es (map (filled lines) xs)) ≡ true
    go more true here rest = ap (λ b. b && are_lined es (map (filled lines) xs)) (ap (has_line es) (filled_id lines x) ∙ here) ∙ more rest
    go more false here rest = absurd (cc)

-- ---- lines after one that is admitted

module _ (version : ℕ) (tx : Digest) where
  pub move_keeps : (xs : List Assigned) (es : LineMap) → KeepsLines es (move_all version tx es xs)
  move_keeps [] es = record { at = λ q has. has }
  move_keeps (x ∷ xs) es = record {
    at = λ q has. (move_keeps xs (move_one version tx es x)).at q (has_put es x.id (moved x.mutable version tx x (line_at es x.id)) q has);
  }

  move_absent : (id : ObjectId) (xs : List Assigned) (es : LineMap) → list_any (of_id id) xs ≡ false → line_at (move_all version tx es xs) id ≡ line_at es id
  move_absent id [] es off = refl
  move_absent id (x ∷ xs) es off = go (move_absent id xs (move_one version tx es x)) (id_eq id x.id) refl off
    where
      go : (list_any (of_id id) xs ≡ false → line_at (move_all version tx (move_one version tx es x) xs) id ≡ line_at (move_one version tx es x) id)
          → (b : Bool) → id_eq id x.id ≡ b → (b || list_any (of_id id) xs) ≡ false → line_at (move_all version tx (move_one version tx es x) xs) id ≡ line_at es id
      go more true is off = absurd (cc)
      go more false is off = more off ∙ line_put es x.id (moved x.mutable version tx x (line_at es x.id)) id ∙ ap (λ b. cond b (moved x.mutable version tx x (line_at es x.id)) (line_at es id)) is

  move_there : (id : ObjectId) (x : Assigned) → x.id ≡ id → (xs : List Assigned) (es : LineMap) → Only id x xs → line_at (move_all version tx es xs) id ≡ moved x.mutable version tx x (line_at es id)
  move_there id x same [] es only = absurd only
  move_there id x same (y ∷ ys) es (inl here) =
      move_absent id ys (move_one version tx es y) here.1
      ∙ line_put es y.id (moved y.mutable version tx y (line_at es y.id)) id
      ∙ ap (λ (z : Assigned). cond (id_eq id z.id) (moved z.mutable version tx z (line_at es z.id)) (line_at es id)) here.0
      ∙ ap (λ (k : ObjectId). cond (id_eq id k) (moved x.mutable version tx x (line_at es k)) (line_at es id)) same
      ∙ ap (λ b. cond b (moved x.mutable version tx x (line_at es id)) (line_at es id)) (id_self id)
  move_there id x same (y ∷ ys) es (inr later) =
      move_there id x same ys (move_one version tx es y) later.1
      ∙ ap (λ (l : Line). moved x.mutable version tx x l)
      (line_put es y.id (moved y.mutable version tx y (line_at es y.id)) id
      ∙ ap (λ b. cond b (moved y.mutable version tx y (line_at es y.id)) (line_at es id)) later.0)

-- ---- what stands after it

-- one more, below the limit
bumped : (n limit : ℕ) → nat_lt n limit ≡ true → limit < 2 ^ 32 → one_more n ≡ n + 1
bumped n limit room small = ap (λ b. cond b (n + 1) n) (fits n limit room small)
  where
    fits : (n limit : ℕ) → nat_lt n limit ≡ true → limit < 2 ^ 32 → nat_lt n 4294967295 ≡ true
    fits n limit room small = grind (arith, nat_tests)

pub all_at : (p : ObjectId → Bool) (id : ObjectId) (ids : List ObjectId) → list_all p ids ≡ true → has_id ids id ≡ true → p id ≡ true
all_at p id [] all has = absurd (cc)
all_at p id (x ∷ xs) all has = go (all_at p id xs) (p x) refl (id_eq id x) refl all has
  where
    go : (list_all p xs ≡ true → has_id xs id ≡ true → p id ≡ true) → (b : Bool) → p x ≡ b → (c : Bool) → id_eq id x ≡ c → (b && list_all p xs) ≡ true → (c || has_id xs id) ≡ true → p id ≡ true
    go more false pb c cb all has = absurd (cc)
    go more true pb true cb all has = ap p (id_same id x cb) ∙ pb
    go more true pb false cb all has = more all has

pub count_push : (test : Admitted → Bool) (adm : List Admitted) (a : Admitted) → count_by test (adm ++ a ∷ []) ≡ count_by test adm + cond (test a) 1 0
count_push test adm a = sum_by-append (λ x. cond (test x) 1 0) adm (a ∷ []) ∙ ap (λ n. count_by test adm + n) (zero-add (cond (test a) 1 0))

-- what is admitted: what it writes, of which it is known where it stands
module _ (opening : List Object) (earlier : List Admitted) (c : Certificate) (lines : LineMap) (a : Admitted)
    (cert_is : a.cert ≡ c) (writes_are : (id : ObjectId) → writes id a ≡ has_id (mutables_of (joined_inputs c)) id)
    (known : (id : ObjectId) → (line_at lines id).standing ≡ stands opening earlier id) where
  abbrev after : LineMap
  after = move_all a.version a.digest lines (map (filled lines) (begun_of opening c))

  said : (id : ObjectId) → now_stands opening earlier a.cert id ≡ first_some (stands opening earlier id ∷ beginning_by opening id c ∷ [])
  said id = ap (λ (d : Certificate). now_stands opening earlier d id) cert_is

  standing_absent : (id : ObjectId) → Absent opening id (joined_inputs c) → (line_at after id).standing ≡ stands opening (earlier ++ a ∷ []) id
  standing_absent id away =
      ap (λ (l : Line). l.standing) (move_absent a.version a.digest id (map (filled lines) (begun_of opening c)) lines (any_filled lines id (begun_of opening c) ∙ away.assigned))
      ∙ known id
      ∙ sym (
      stands_push opening earlier a id
      ∙ ap (λ b. cond b (Some (a.version, producers.Tx a.digest)) (now_stands opening earlier a.cert id)) (writes_are id ∙ away.writes)
      ∙ said id
      ∙ ap (λ o. first_some (stands opening earlier id ∷ o ∷ [])) away.begins
      ∙ none_behind (stands opening earlier id))
    where
      none_behind : (o : Option Standing) → first_some (o ∷ None ∷ []) ≡ o
      none_behind None = refl
      none_behind (Some s) = refl

  line_there : (id : ObjectId) (x : Assigned) → There opening id (joined_inputs c) x → line_at after id ≡ moved x.mutable a.version a.digest (filled lines x) (line_at lines id)
  line_there id x there =
      move_there a.version a.digest id (filled lines x) (filled_id lines x ∙ there.same) (map (filled lines) (begun_of opening c)) lines (only_filled lines id x (begun_of opening c) there.only)
      ∙ ap (λ m. moved m a.version a.digest (filled lines x) (line_at lines id)) (filled_mutable lines x)

  standing_there : (id : ObjectId) (x : Assigned) → There opening id (joined_inputs c) x → (line_at after id).standing ≡ stands opening (earlier ++ a ∷ []) id
  standing_there id x there =
      ap (λ (l : Line). l.standing) (line_there id x there)
      ∙ by x.mutable
      ∙ sym (stands_push opening earlier a id ∙ ap (λ b. cond b (Some (a.version, producers.Tx a.digest)) (now_stands opening earlier a.cert id)) (writes_are id ∙ there.writes))
    where
      at : (o : Option Standing) → Some (standing_in (standing_as x o)) ≡ first_some (o ∷ Some (standing_in x) ∷ [])
      at None = refl
      at (Some s) = refl

      read : Some (standing_in (filled lines x)) ≡ now_stands opening earlier a.cert id
      read =
          ap (λ (k : ObjectId). Some (standing_in (standing_as x (line_at lines k).standing))) there.same
          ∙ ap (λ o. Some (standing_in (standing_as x o))) (known id)
          ∙ at (stands opening earlier id)
          ∙ ap (λ o. first_some (stands opening earlier id ∷ o ∷ [])) (sym there.begins)
          ∙ sym (said id)

      by : (m : Bool) → (moved m a.version a.digest (filled lines x) (line_at lines id)).standing ≡ cond m (Some (a.version, producers.Tx a.digest)) (now_stands opening earlier a.cert id)
      by true = refl
      by false = read

  pub standing_after_one : (id : ObjectId) → Spot opening id (joined_inputs c) → (line_at after id).standing ≡ stands opening (earlier ++ a ∷ []) id
  standing_after_one id (is_absent away) = standing_absent id away
  standing_after_one id (is_there x there) = standing_there id x there

  pub writers_after_one : (limit : ℕ) → limit < 2 ^ 32 → (since : List Admitted) (id : ObjectId) → (line_at lines id).writers ≡ count_by (writes id) since
      → (has_id (mutables_of (joined_inputs c)) id ≡ true → nat_lt (count_by (writes id) since) limit ≡ true) → Spot opening id (joined_inputs c)
      → (line_at after id).writers ≡ count_by (writes id) (since ++ a ∷ [])
  writers_after_one limit small since id counted room (is_absent away) =
      ap (λ (l : Line). l.writers) (move_absent a.version a.digest id (map (filled lines) (begun_of opening c)) lines (any_filled lines id (begun_of opening c) ∙ away.assigned))
      ∙ counted
      ∙ sym (count_push (writes id) since a ∙ ap (λ b. count_by (writes id) since + cond b 1 0) (writes_are id ∙ away.writes) ∙ add-zero (count_by (writes id) since))
  writers_after_one limit small since id counted room (is_there x there) =
      ap (λ (l : Line). l.writers) (line_there id x there)
      ∙ by x.mutable refl
      ∙ sym (count_push (writes id) since a ∙ ap (λ b. count_by (writes id) since + cond b 1 0) (writes_are id ∙ there.writes))
    where
      by : (m : Bool) → x.mutable ≡ m → (moved m a.version a.digest (filled lines x) (line_at lines id)).writers ≡ count_by (writes id) since + cond m 1 0
      by true is = ap one_more counted ∙ bumped (count_by (writes id) since) limit (room (there.writes ∙ is)) small
      by false is = counted ∙ sym (add-zero (count_by (writes id) since))

  -- what it writes is among what it was assigned
  pub names_all : (id : ObjectId) → Spot opening id (joined_inputs c) → writes id a ≡ true → list_any (of_id id) (map (filled lines) (begun_of opening c)) ≡ true
  names_all id (is_absent away) wrote = absurd (clash (sym wrote ∙ writes_are id ∙ away.writes))
    where
      clash : true ≡ false → ⊥
      clash f = cc
  names_all id (is_there x there) wrote = any_filled lines id (begun_of opening c) ∙ among (begun_of opening c) there.only
    where
      among : (xs : List Assigned) → Only id x xs → list_any (of_id id) xs ≡ true
      among [] only = absurd only
      among (y ∷ ys) (inl here) = ap (λ b. b || list_any (of_id id) ys) (ap (λ (z : Assigned). id_eq id z.id) here.0 ∙ ap (id_eq id) there.same ∙ id_self id)
      among (y ∷ ys) (inr later) = ap (λ b. b || list_any (of_id id) ys) later.0 ∙ among ys later.1
