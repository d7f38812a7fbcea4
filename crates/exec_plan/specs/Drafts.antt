-- The tasks and edges of a plan as the code lays them out: one certificate after the other, each with the edges to it.
use Rattle.std.specs.Prelude.{◌≡◌, ℕ, List, [], ◌∷◌, ◌++◌, map, filter_map, position, length, Option, Some, None, slice_get, slice_set}
use Rattle.indexmap.specs.IndexSet.{insert_key}
use Rattle.digest_core.specs.declared.Digest.{Digest}
use Rattle.chain_types.specs.declared.objects.ObjectKey.{ObjectKey}
use Rattle.chain_types.specs.declared.objects.Producer.{Producer}
use Rattle.chain_types.specs.declared.objects.Producer.TheVariants as producers
use Rattle.protocol_spec.specs.declared.answers.Held.{Held}
use Rattle.chain_types.specs.Equal.{digest_eq}
use Rattle.protocol_spec.specs.Member.Versions.{Version}
use Rattle.protocol_spec.specs.Member.Admission.{Admission}
use Rattle.protocol_spec.specs.Member.Rounds.{Wanted, found, wants_of}
use Rattle.dag_core.specs.declared.plan.Edge.{Edge}
use Rattle.exec_plan.specs.declared.task.Want.{Want}
use Rattle.exec_plan.specs.declared.link.Link.{Link}
use Rattle.exec_plan.specs.Tasks.{Planned, edge_of, link_as, links_after, origin_of, slot_as, tasks_after}

-- the number of the task that makes a version, if these are the planned transactions; none if none of them does
abbrev pub number_in : List Digest → Option Producer → Option ℕ
number_in keys None = None
number_in keys (Some producers.Opening) = None
number_in keys (Some (producers.Tx tx)) = position (digest_eq tx) keys

abbrev pub want_in : List Version → List Digest → Wanted → Want
want_in vs keys w = record { key = w.key; origin = origin_of w.producer; slot = slot_as (found vs w) (number_in keys w.producer) }

abbrev pub link_in : List Version → List Digest → Wanted → Option Link
link_in vs keys w = link_as (length keys) w.key (found vs w) (number_in keys w.producer)

-- a task that hands on nothing yet
abbrev pub bare_task : Held → List Want → Planned
bare_task h wants = record { digest = h.digest; tx = h.cert.tx; wants = wants; gives = [] }

-- the task with one more version to hand on
abbrev pub with_give : Planned → ObjectKey → Planned
with_give t key = record t { gives = t.gives ++ key ∷ [] }

abbrev pub given_at : List Planned → ℕ → ObjectKey → Option Planned → List Planned
given_at tasks number key None = tasks
given_at tasks number key (Some t) = slice_set tasks number (with_give t key)

-- the tasks after a link: the task that it comes from hands on the link's version too
abbrev pub given : List Planned → Link → List Planned
given tasks l = given_at tasks l.from l.key (slice_get tasks l.from)

abbrev pub all_given : List Planned → List Link → List Planned
all_given tasks [] = tasks
all_given tasks (l ∷ ls) = all_given (given tasks l) ls

-- the transactions planned so far, their tasks, and the edges between these
pub record Drafted : Type 0 where
  pub keys : List Digest
  pub tasks : List Planned
  pub edges : List Edge

abbrev pub drafted_with : List Version → List Wanted → Drafted → Held → Drafted
drafted_with vs ws d h = record {
  keys = insert_key digest_eq d.keys h.digest;
  tasks = all_given d.tasks (filter_map (link_in vs d.keys) ws) ++ bare_task h (map (want_in vs d.keys) ws) ∷ [];
  edges = d.edges ++ map edge_of (filter_map (link_in vs d.keys) ws);
}

abbrev pub drafted_at : List Version → Admission → Drafted → Option Held → Drafted
drafted_at vs a d None = d
drafted_at vs a d (Some h) = drafted_with vs (wants_of a h) d h

-- the draft with the tasks of these certificates and the edges to them
abbrev pub drafted_after : List Version → Admission → Drafted → List Held → Drafted
drafted_after vs a d [] = d
drafted_after vs a d (h ∷ hs) = drafted_after vs a (drafted_with vs (wants_of a h) d h) hs

-- the certificates at these places, if there are any
abbrev pub picked : List Held → List ℕ → List Held
picked held places = filter_map (slice_get held) places

-- the draft of no certificates
abbrev pub nothing_drafted : Drafted
nothing_drafted = record { keys = []; tasks = []; edges = [] }

-- the draft is the definition's plan of some certificates
pub record IsDraft (d : Drafted) : Type 0 where
  pub held : List Version
  pub admission : Admission
  pub planned : List Held
  pub tasks : d.tasks ≡ tasks_after held admission (links_after held admission [] planned) [] planned
  pub edges : d.edges ≡ map edge_of (links_after held admission [] planned)
