-- What is found by its id is the first of that id that left the block.
use Rattle.std.proofs.Common.{◌≡◌, ℕ, Bool, true, false, cond, List, [], ◌∷◌, ◌++◌, Option, Some, None, is_some, option_map, refl, ap, sym, ◌∙◌}
use Rattle.std.specs.Prelude.{find}
use Rattle.std.specs.Map.{lookup}
use Rattle.chain_types.specs.declared.objects.ObjectId.{ObjectId}
use Rattle.chain_types.specs.Equal.{id_eq}
use Rattle.protocol_spec.specs.declared.pieces.Item.{Item}
use Rattle.protocol_spec.specs.declared.pieces.Placed.{Placed}
use Rattle.protocol_spec.proofs.Equality.{id_same, bytes_turned}
use Rattle.protocol_spec.proofs.Truth.{or_else}
use Rattle.protocol_spec.specs.Block.Block.{Block, value_in}
use Rattle.protocol_spec.specs.Block.Commands.{piece_of}
use Rattle.protocol_spec.specs.Block.Execution.{after_block, left_in, now_in, object_at}
use Rattle.ptb_run.specs.declared.written.Moved.{Moved}
use Rattle.ptb_run.specs.Values.{spot_of}
use Rattle.ptb_run.specs.Left.{Left, firsts_after, moved_now, object_left, object_now, with_first}

or_none : {A : Type 0} → (x : Option A) → x ≡ or_else x None
or_none None = refl
or_none (Some x) = refl

or_else-assoc : {A : Type 0} → (x y z : Option A) → or_else (or_else x y) z ≡ or_else x (or_else y z)
or_else-assoc None y z = refl
or_else-assoc (Some x) y z = refl

lookup_last : {K V : Type 0} → (test : K → Bool) (es : List (K × V)) (k : K) (v : V) → lookup test (es ++ (k, v) ∷ []) ≡ or_else (lookup test es) (cond (test k) (Some v) None)
lookup_last test [] k v = refl
lookup_last test (e ∷ es) k v = by (test e.0) (lookup_last test es k v)
  where
    by : (b : Bool) → lookup test (es ++ (k, v) ∷ []) ≡ or_else (lookup test es) (cond (test k) (Some v) None)
        → cond b (Some e.1) (lookup test (es ++ (k, v) ∷ [])) ≡ or_else (cond b (Some e.1) (lookup test es)) (cond (test k) (Some v) None)
    by true more = refl
    by false more = more

clash : true ≡ false → ⊥
clash h = cc

one_more : (id : ObjectId) (left : Left) (p : Placed) (rest : Option Placed)
    → or_else (lookup (id_eq id) (with_first left p)) rest ≡ or_else (lookup (id_eq id) left) (cond (id_eq p.item.id id) (Some p) rest)
one_more id left p rest = by (lookup (id_eq p.item.id) left) refl
  where
    there : (b : Bool) → id_eq p.item.id id ≡ b → (o : Option Placed) → lookup (id_eq id) left ≡ o → is_some (lookup (id_eq p.item.id) left) ≡ true → or_else o rest ≡ or_else o (cond b (Some p) rest)
    there b e (Some q) is some = refl
    there false e None is some = refl
    there true e None is some = absurd (clash (sym some ∙ ap is_some (ap (λ (i : ObjectId). lookup (id_eq i) left) (id_same p.item.id id e) ∙ is)))

    pick : (b : Bool) → or_else (cond b (Some p) None) rest ≡ cond b (Some p) rest
    pick true = refl
    pick false = refl

    by : (o : Option Placed) → lookup (id_eq p.item.id) left ≡ o
        → or_else (lookup (id_eq id) (cond (is_some (lookup (id_eq p.item.id) left)) left (left ++ (p.item.id, p) ∷ []))) rest ≡ or_else (lookup (id_eq id) left) (cond (id_eq p.item.id id) (Some p) rest)
    by (Some q) is =
        ap (λ (o : Option Placed). or_else (lookup (id_eq id) (cond (is_some o) left (left ++ (p.item.id, p) ∷ []))) rest) is
        ∙ there (id_eq p.item.id id) refl (lookup (id_eq id) left) refl (ap is_some is)
    by None is =
        ap (λ (o : Option Placed). or_else (lookup (id_eq id) (cond (is_some o) left (left ++ (p.item.id, p) ∷ []))) rest) is
        ∙ ap (λ (o : Option Placed). or_else o rest) (lookup_last (id_eq id) left p.item.id p)
        ∙ or_else-assoc (lookup (id_eq id) left) (cond (id_eq id p.item.id) (Some p) None) rest
        ∙ ap (λ (o : Option Placed). or_else (lookup (id_eq id) left) o)
        (ap (λ (b : Bool). or_else (cond b (Some p) None) rest) (bytes_turned id.0.0 p.item.id.0.0) ∙ pick (id_eq p.item.id id))

found_after : (id : ObjectId) (left : Left) (ps : List Placed) → lookup (id_eq id) (firsts_after left ps) ≡ or_else (lookup (id_eq id) left) (find (λ (p : Placed). id_eq p.item.id id) ps)
found_after id left [] = or_none (lookup (id_eq id) left)
found_after id left (p ∷ ps) = found_after id (with_first left p) ps ∙ one_more id left p (find (λ (q : Placed). id_eq q.item.id id) ps)

pub same_left : (version : ℕ) (placed : List Placed) (id : ObjectId) → object_left version (firsts_after [] placed) id ≡ left_in version placed id
same_left version placed id = ap (λ (o : Option Placed). option_map (λ (p : Placed). object_at version p.owner p.item) o) (found_after id [] placed)

pub same_now : (version : ℕ) (b : Block) (m : Moved) → moved_now version (firsts_after [] b.placed) b m ≡ after_block version b (spot_of m.spot) m.object
same_now version b m = go (piece_of (value_in (spot_of m.spot) b.slots))
  where
    go : (i : Option Item) → object_now version (firsts_after [] b.placed) m.object i ≡ now_in version b.placed m.object i
    go None = same_left version b.placed m.object.id
    go (Some item) = refl
