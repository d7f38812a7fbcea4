-- One step of a ledger, over its tables.
use Rattle.std.proofs.Common.{◌≡◌, ℕ, List, Some, None, ap, sym, ◌∙◌}
use Rattle.std.specs.Map.{lookup}
use Rattle.std.specs.FinMap.{get}
use Rattle.indexmap.specs.IndexMap.{insert_entry}
use Rattle.indexmap.specs.IndexSet.{insert_key}
use Rattle.digest_core.specs.declared.Digest.{Digest}
use Rattle.chain_types.specs.declared.objects.Object.{Object}
use Rattle.chain_types.specs.declared.objects.ObjectId.{ObjectId}
use Rattle.chain_types.specs.Equal.{id_eq}
use Rattle.follower_core.specs.Ledgers.{Changes, Entries, Ledger, ledger_as, now_as, overlaid}
use Rattle.protocol_spec.specs.Member.Sequential.{Objects, with_object, without_id}
use Rattle.follower_core.specs.Courses.{Course}
use Rattle.follower_core.proofs.Changing.{now_under, one_more}

pub got : (es : Entries) (cs : Changes) (n : ℕ) (ran : List Digest) (k : ℕ) (gone : List ObjectId) (s : Ledger) (id : ObjectId) → ledger_as es cs n ran k gone ≡ s
    → overlaid (lookup (id_eq id) cs) (lookup (id_eq id) es) ≡ get s.present.map id
got es cs n ran k gone s id view = sym (now_under es cs id) ∙ ap (λ (l : Ledger). get l.present.map id) view

-- an object was put under its id
pub puts : (es : Entries) (cs : Changes) (n : ℕ) (ran : List Digest) (k : ℕ) (gone : List ObjectId) (s : Ledger) (o : Object) → ledger_as es cs n ran k gone ≡ s
    → now_as es (insert_entry id_eq cs o.id (Some o)) ran gone ≡ record { map = with_object s.present.map o; ran = s.present.ran; gone = s.present.gone }
puts es cs n ran k gone s o view =
    ap (λ (m : Objects). let c : Course = record { map = m; ran = ran; gone = gone } in c) (one_more es cs o.id (Some o))
    ∙ ap (λ (l : Ledger). let c : Course = record { map = with_object l.present.map o; ran = l.present.ran; gone = l.present.gone } in c) view

-- what stood under an id was taken out
pub deletes : (es : Entries) (cs : Changes) (n : ℕ) (ran : List Digest) (k : ℕ) (gone : List ObjectId) (s : Ledger) (id : ObjectId) → ledger_as es cs n ran k gone ≡ s
    → now_as es (insert_entry id_eq cs id None) ran (insert_key id_eq gone id) ≡ record { map = without_id s.present.map id; ran = s.present.ran; gone = insert_key id_eq s.present.gone id }
deletes es cs n ran k gone s id view =
    ap (λ (m : Objects). let c : Course = record { map = m; ran = ran; gone = insert_key id_eq gone id } in c) (one_more es cs id None)
    ∙ ap (λ (l : Ledger). let c : Course = record { map = without_id l.present.map id; ran = l.present.ran; gone = insert_key id_eq l.present.gone id } in c) view
