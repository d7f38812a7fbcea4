-- What is known of the objects, as places are made and lines are put.
use Rattle.std.proofs.Common.{◌≡◌, ℕ, Bool, true, false, cond, ◌&&◌, List, [], ◌∷◌, ◌++◌, Option, Some, None, is_some, unwrap_or, length, zero, suc, add-one, refl, ap, sym, ◌∙◌, subst, take, drop, ◌-◌, ◌≤◌, ◌+◌, ◌<◌, arith, map}
use Rattle.std.specs.Prelude.{fold}
use Rattle.std.proofs.Math.ListN.{get_or, set}
use Rattle.std.specs.Map.{lookup}
use Rattle.indexmap.specs.IndexMap.{insert_entry}
use Rattle.digest_core.specs.declared.Digest.{Digest}
use Rattle.chain_types.specs.declared.objects.ObjectId.{ObjectId}
use Rattle.chain_types.specs.Equal.{id_eq}
use Rattle.protocol_spec.specs.declared.answers.Assigned.{Assigned}
use Rattle.version_assign.specs.declared.lines.Line.{Line}
use Rattle.version_assign.specs.Lines.{LineMap, are_lined, clear_one, cleared, has_line, line_at, move_one, moved, no_line}
use Rattle.tables.proofs.Lookups.{lookup_insert}
use Rattle.protocol_spec.proofs.Equality.{id_same, id_self}
use Rattle.protocol_spec.proofs.ListLemmas.{tail_is}

-- ---- reads after a write

pub read : (es : LineMap) (k : ObjectId) (v : Line) (q : ObjectId) → lookup (id_eq q) (insert_entry id_eq es k v) ≡ cond (id_eq q k) (Some v) (lookup (id_eq q) es)
read es k v q = lookup_insert id_eq id_same id_self es k v q

pub line_put : (es : LineMap) (k : ObjectId) (v : Line) (q : ObjectId) → line_at (insert_entry id_eq es k v) q ≡ cond (id_eq q k) v (line_at es q)
line_put es k v q = ap (λ (o : Option Line). unwrap_or o no_line) (read es k v q) ∙ by (id_eq q k)
  where
    by : (b : Bool) → unwrap_or (cond b (Some v) (lookup (id_eq q) es)) no_line ≡ cond b v (line_at es q)
    by true = refl
    by false = refl

pub has_put : (es : LineMap) (k : ObjectId) (v : Line) (q : ObjectId) → has_line es q ≡ true → has_line (insert_entry id_eq es k v) q ≡ true
has_put es k v q has = ap is_some (read es k v q) ∙ by (id_eq q k)
  where
    by : (b : Bool) → is_some (cond b (Some v) (lookup (id_eq q) es)) ≡ true
    by true = refl
    by false = has

pub line_made : (es : LineMap) (k : ObjectId) → has_line es k ≡ false → (q : ObjectId) → line_at (insert_entry id_eq es k no_line) q ≡ line_at es q
line_made es k none q = line_put es k no_line q ∙ by (id_eq q k) refl
  where
    absent : (o : Option Line) → is_some o ≡ false → no_line ≡ unwrap_or o no_line
    absent None e = refl
    absent (Some v) e = absurd (cc)

    by : (b : Bool) → id_eq q k ≡ b → cond b no_line (line_at es q) ≡ line_at es q
    by true same = subst (λ (x : ObjectId). no_line ≡ line_at es x) (sym (id_same q k same)) (absent (lookup (id_eq k) es) none)
    by false other = refl

-- ---- places for all

pub record KeepsLines (old new : LineMap) : Type 0 where
  pub at : (q : ObjectId) → has_line old q ≡ true → has_line new q ≡ true

pub lined_more : (old new : LineMap) (xs : List Assigned) → KeepsLines old new → are_lined old xs ≡ true → are_lined new xs ≡ true
lined_more old new [] kept all = refl
lined_more old new (x ∷ xs) kept all = go (lined_more old new xs kept) (has_line old x.id) refl all
  where
    go : (are_lined old xs ≡ true → are_lined new xs ≡ true) → (b : Bool) → has_line old x.id ≡ b → (b && are_lined old xs) ≡ true → (has_line new x.id && are_lined new xs) ≡ true
    go more true here rest = ap (λ c. c && are_lined new xs) (kept.at x.id here) ∙ more rest
    go more false here rest = absurd (cc)

pub record IsMade (old new : LineMap) (rest all : List Assigned) : Type 0 where
  pub same : (q : ObjectId) → line_at new q ≡ line_at old q
  pub kept : (q : ObjectId) → has_line old q ≡ true → has_line new q ≡ true
  pub made : (es : LineMap) → KeepsLines new es → are_lined es rest ≡ true → are_lined es all ≡ true

-- ---- loops over what was assigned

lined_rest : (es : LineMap) (x : Assigned) (xs : List Assigned) → are_lined es (x ∷ xs) ≡ true → are_lined es xs ≡ true
lined_rest es x xs all = go (has_line es x.id) all
  where
    go : (b : Bool) → (b && are_lined es xs) ≡ true → are_lined es xs ≡ true
    go true all = all
    go false all = absurd (cc)

pub move_step : (version : ℕ) (tx : Digest) (es : LineMap) (x : Assigned) → KeepsLines es (move_one version tx es x)
move_step version tx es x = record { at = λ q has. has_put es x.id (moved x.mutable version tx x (line_at es x.id)) q has }

pub clear_step : (es : LineMap) (x : Assigned) → KeepsLines es (clear_one es x)
clear_step es x = record { at = λ q has. has_put es x.id (cleared (line_at es x.id)) q has }

-- one step of a loop that writes the line of each
pub stepped : (step : LineMap → Assigned → LineMap) → ((es : LineMap) (x : Assigned) → KeepsLines es (step es x)) → (es new all_of : LineMap) (rest : List Assigned) (d : Assigned) → new ≡ step es (get_or rest 0 d) → 1 ≤ length rest
    → fold step es rest ≡ all_of → are_lined es rest ≡ true
    → (fold step new (take (length rest - 1) (drop 1 rest)) ≡ all_of) × (are_lined new (take (length rest - 1) (drop 1 rest)) ≡ true)
stepped step keeps es new all_of [] d is some same lined = absurd (omega (arith, some))
stepped step keeps es new all_of (x ∷ xs) d is some same lined = (
  ap (fold step new) (tail_is x xs) ∙ ap (λ (ls : LineMap). fold step ls xs) is ∙ same,
  ap (are_lined new) (tail_is x xs) ∙ lined_more es new xs (subst (KeepsLines es) (sym is) (keeps es x)) (lined_rest es x xs lined),
)

-- ---- lists that are filled in place

module _ {A : Type 0} (f : A → A) where
  fill_one : (xs : List A) (i : ℕ) (d : A) → i < length xs → set (map f (take i xs) ++ drop i xs) i (f (get_or (map f (take i xs) ++ drop i xs) i d)) ≡ map f (take (suc i) xs) ++ drop (suc i) xs
  fill_one [] i d h = absurd (omega (arith, h))
  fill_one (x ∷ xs) zero d h = refl
  fill_one (x ∷ xs) (suc i) d h = ap (λ ys. f x ∷ ys) (fill_one xs i d (omega arith))

  pub filled_more : (xs ys : List A) (i : ℕ) (d v : A) → ys ≡ map f (take i xs) ++ drop i xs → i < length xs → v ≡ f (get_or ys i d) → set ys i v ≡ map f (take (i + 1) xs) ++ drop (i + 1) xs
  filled_more xs ys i d v are h is =
      ap (set ys i) is
      ∙ ap (λ zs. set zs i (f (get_or zs i d))) are
      ∙ fill_one xs i d h
      ∙ rw add-one refl
