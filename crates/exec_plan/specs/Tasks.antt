-- The tasks of a plan, what comes of each, and what is kept. Source: this profile; what executes a transaction is the
-- definition of execution (Sui Lutris).
use Rattle.std.specs.Prelude.{◌≡◌, ℕ, suc, ◌==◌, Bool, true, false, ◌&&◌, List, [], ◌∷◌, ◌++◌, map, filter, filter_map, find, zip, length, Option, Some, None, option_map, if◌then◌else◌}
use Rattle.std.specs.List.{list_any, list_all}
use Rattle.digest_core.specs.declared.Digest.{Digest}
use Rattle.chain_types.specs.declared.objects.ObjectKey.{ObjectKey}
use Rattle.chain_types.specs.declared.objects.Object.{Object}
use Rattle.chain_types.specs.declared.objects.Producer.{Producer}
use Rattle.chain_types.specs.declared.objects.Producer.TheVariants as producers
use Rattle.chain_types.specs.declared.transactions.Transaction.{Transaction}
use Rattle.protocol_spec.specs.declared.answers.Held.{Held}
use Rattle.protocol_spec.specs.declared.answers.Left.{Left}
use Rattle.chain_types.specs.Equal.{digest_eq, key_eq}
use Rattle.chain_types.specs.Digests.{consumed_keys, transaction_digest}
use Rattle.protocol_spec.specs.Chain.Words.{first_of, where_true}
use Rattle.protocol_spec.specs.Chain.Keys.{object_key, fits}
use Rattle.protocol_spec.specs.Chain.Shape.{shape_fault}
use Rattle.protocol_spec.specs.Block.Execution.{execution, written_keys}
use Rattle.protocol_spec.specs.Member.Versions.{Execution, Version, versions}
use Rattle.protocol_spec.specs.Member.Admission.{Admission}
use Rattle.protocol_spec.specs.Member.Rounds.{Books, Wanted, found, is_due, is_maker_done, wants_of, writes_new}
use Rattle.dag_core.specs.declared.plan.Edge.{Edge}
use Rattle.dag_core.specs.Values.{outputs}
use Rattle.exec_plan.specs.declared.link.Link.{Link}
use Rattle.exec_plan.specs.declared.task.Carry.{Carry}
use Rattle.exec_plan.specs.declared.task.Carry.TheVariants as carries
use Rattle.exec_plan.specs.declared.task.Outcome.{Outcome}
use Rattle.exec_plan.specs.declared.task.Outcome.TheVariants as outcomes
use Rattle.exec_plan.specs.declared.task.Slot.{Slot}
use Rattle.exec_plan.specs.declared.task.Slot.TheVariants as slots
use Rattle.exec_plan.specs.declared.task.Want.{Want}
use Rattle.exec_plan.specs.Layers.{is_of, onto_kept, planned_of}

-- a task: its transaction under its digest, what it wants, and the keys of what it hands on, one for each outgoing edge
pub record Planned : Type 0 where
  pub digest : Digest
  pub tx : Transaction
  pub wants : List Want
  pub gives : List ObjectKey

-- ---- what the tasks want

-- the place of a transaction among these certificates, counted from 0: the number of its task
abbrev pub number_of : Digest → List Held → Option ℕ
number_of tx [] = None
number_of tx (h ∷ hs) = if is_of tx h then Some 0 else option_map suc (number_of tx hs)

-- the number of the task that makes a version, among the earlier tasks
abbrev pub maker_number : List Held → Option Producer → Option ℕ
maker_number front None = None
maker_number front (Some producers.Opening) = None
maker_number front (Some (producers.Tx tx)) = number_of tx front

-- the object, if it is held; else an edge, if an earlier task makes it
abbrev pub slot_as : Option Object → Option ℕ → Slot
slot_as (Some o) maker = slots.Here o
slot_as None (Some number) = slots.Edge
slot_as None None = slots.Lacks

-- an object that was not assigned is wanted as the epoch opened
abbrev pub origin_of : Option Producer → Producer
origin_of None = producers.Opening
origin_of (Some producer) = producer

abbrev pub want_as : List Version → List Held → Wanted → Want
want_as held front w = record { key = w.key; origin = origin_of w.producer; slot = slot_as (found held w) (maker_number front w.producer) }

-- the link to task `to` for a wanted version: none if the version is held, or if no earlier task makes it
abbrev pub link_as : ℕ → ObjectKey → Option Object → Option ℕ → Option Link
link_as to key (Some o) maker = None
link_as to key None None = None
link_as to key None (Some from) = Some (record { from = from; to = to; key = key })

abbrev pub link_of : List Version → List Held → Wanted → Option Link
link_of held front w = link_as (length front) w.key (found held w) (maker_number front w.producer)

-- the links to the tasks of these certificates, from one another and from the earlier ones (`front`), task by task,
-- each in the order of its objects
abbrev pub links_after : List Version → Admission → List Held → List Held → List Link
links_after held a front [] = []
links_after held a front (h ∷ hs) = filter_map (link_of held front) (wants_of a h) ++ links_after held a (front ++ h ∷ []) hs

abbrev pub edge_of : Link → Edge
edge_of l = record { from = l.from; to = l.to }

abbrev pub key_of_link : Link → ObjectKey
key_of_link l = l.key

-- the keys of what a task hands on
abbrev pub gives_of : List Link → ℕ → List ObjectKey
gives_of links number = map key_of_link (filter (λ (l : Link). l.from == number) links)

abbrev pub task_of : List Version → Admission → List Link → List Held → Held → Planned
task_of held a links front h = record {
  digest = h.digest;
  tx = h.cert.tx;
  wants = map (want_as held front) (wants_of a h);
  gives = gives_of links (length front);
}

-- the tasks of these certificates, after the earlier ones
abbrev pub tasks_after : List Version → Admission → List Link → List Held → List Held → List Planned
tasks_after held a links front [] = []
tasks_after held a links front (h ∷ hs) = task_of held a links front h ∷ tasks_after held a links (front ++ h ∷ []) hs

-- a task of a transaction of valid shape, under the transaction's digest
abbrev pub IsSoundTask : Transaction → Digest → Type 0
IsSoundTask tx digest = (shape_fault tx ≡ None) × (digest ≡ transaction_digest tx)

-- ---- the plan of a run

unfoldable pub links_of : Books → List Execution → List Link
links_of b executed = links_after (versions b.opening executed) b.admission [] (planned_of b executed)

unfoldable pub edges_of : Books → List Execution → List Edge
edges_of b executed = map edge_of (links_of b executed)

unfoldable pub tasks_of : Books → List Execution → List Planned
tasks_of b executed = tasks_after (versions b.opening executed) b.admission (links_of b executed) [] (planned_of b executed)

-- the wanted version comes by an edge: `takes_of` and `count_given` count the edges to a task and from it
abbrev pub is_edge : Slot → Bool
is_edge (slots.Here o) = false
is_edge slots.Edge = true
is_edge slots.Lacks = false

abbrev pub takes_of : Planned → ℕ
takes_of t = length (filter (λ (w : Want). is_edge w.slot) t.wants)

abbrev pub count_given : Planned → ℕ
count_given t = length t.gives

-- ---- what comes of a task

-- what a task gets for a wanted version: the held object, what the next incoming edge carries, or nothing
abbrev pub first_carry : Slot → List Carry → Carry
first_carry (slots.Here o) inputs = carries.Object o
first_carry slots.Lacks inputs = carries.Lacks
first_carry slots.Edge [] = carries.NotRun
first_carry slots.Edge (input ∷ inputs) = input

-- what the edges carry that are left for the next wanted versions
abbrev pub other_carries : Slot → List Carry → List Carry
other_carries (slots.Here o) inputs = inputs
other_carries slots.Lacks inputs = inputs
other_carries slots.Edge [] = []
other_carries slots.Edge (input ∷ inputs) = inputs

abbrev pub carried : List Want → List Carry → List Carry
carried [] inputs = []
carried (w ∷ ws) inputs = first_carry w.slot inputs ∷ carried ws (other_carries w.slot inputs)

abbrev pub is_not_run : Carry → Bool
is_not_run (carries.Object o) = false
is_not_run carries.Lacks = false
is_not_run carries.NotRun = true

-- the wanted version, if nothing is there for it
abbrev pub lacking : (Want × Carry) → Option Want
lacking (w, carries.Object o) = None
lacking (w, carries.Lacks) = Some w
lacking (w, carries.NotRun) = None

abbrev pub object_of : Carry → Option Object
object_of (carries.Object o) = Some o
object_of carries.Lacks = None
object_of carries.NotRun = None

abbrev pub outcome_with : Transaction → List Object → Outcome
outcome_with t objects = if fits t objects then outcomes.Done (execution t objects) else outcomes.Unfit

abbrev pub outcome_on : Transaction → List Carry → Option Want → Outcome
outcome_on t there (Some w) = outcomes.Absent w.key w.origin
outcome_on t there None = outcome_with t (filter_map object_of there)

-- the outcome of a task, the first that applies: a transaction that makes what it wants was not executed; a version is
-- lacking; the objects do not fit; else it is executed
abbrev pub outcome_of : Planned → List Carry → Outcome
outcome_of t inputs =
    if list_any is_not_run inputs then outcomes.Waits
    else outcome_on t.tx (carried t.wants inputs) (first_of lacking (zip t.wants (carried t.wants inputs)))

-- the object with this key among those that were written
abbrev pub is_at : ObjectKey → Object → Bool
is_at key o = key_eq (object_key o) key

abbrev pub carry_as : Option Object → Carry
carry_as (Some o) = carries.Object o
carry_as None = carries.Lacks

-- what is handed on under this key
abbrev pub carry_of : Outcome → ObjectKey → Carry
carry_of (outcomes.Done gave) key = carry_as (find (is_at key) gave.objects)
carry_of (outcomes.Absent k origin) key = carries.NotRun
carry_of outcomes.Unfit key = carries.NotRun
carry_of outcomes.Waits key = carries.NotRun

-- the job of a task: what comes of it, and what each outgoing edge carries
abbrev pub output_of : Planned → List Carry → (Digest × Outcome)
output_of t inputs = (t.digest, outcome_of t inputs)

abbrev pub values_of : Planned → List Carry → List Carry
values_of t inputs = map (carry_of (outcome_of t inputs)) t.gives

-- the outputs of a run's plan, in the order of the tasks
unfoldable pub outputs_of : Books → List Execution → List (Digest × Outcome)
outputs_of b executed = outputs output_of values_of (edges_of b executed) (tasks_of b executed)

-- ---- what is kept

-- the maker of the wanted version is the opening, or is executed
abbrev pub is_origin_kept : List Execution → Want → Bool
is_origin_kept executed w = is_maker_done executed (Some w.origin)

-- the execution of a task as it is kept after these executions: only if all that makes what it wants is executed, and
-- no key that it writes is held already or written twice
abbrev pub keep_as : List Object → List Execution → Planned → Outcome → Option Execution
keep_as opening executed t (outcomes.Done gave) =
    where_true (list_all (is_origin_kept executed) t.wants && writes_new (versions opening executed) (written_keys gave))
    (record { digest = t.digest; consumed = consumed_keys t.tx; gave = gave })
keep_as opening executed t (outcomes.Absent key origin) = None
keep_as opening executed t outcomes.Unfit = None
keep_as opening executed t outcomes.Waits = None

-- what is kept of these outputs, one after the other, each after those kept before it
abbrev pub kept_of : List Object → List Execution → List Planned → List (Digest × Outcome) → List Execution
kept_of opening executed [] outs = []
kept_of opening executed (t ∷ ts) [] = []
kept_of opening executed (t ∷ ts) (o ∷ os) = onto_kept (λ more. kept_of opening more ts os) executed (keep_as opening executed t o.1)

-- ---- what is left

-- what came of a transaction's task
abbrev pub outcome_for : List (Digest × Outcome) → Digest → Option Outcome
outcome_for [] tx = None
outcome_for (o ∷ os) tx = if digest_eq o.0 tx then Some o.1 else outcome_for os tx

-- the first version that was not there, none if all were
abbrev pub key_lacking : Outcome → Option ObjectKey
key_lacking (outcomes.Absent key origin) = Some key
key_lacking (outcomes.Done gave) = None
key_lacking outcomes.Unfit = None
key_lacking outcomes.Waits = None

-- a certificate whose task was not kept is left, if all that it waits for is executed after these
abbrev pub left_by : Books → List Execution → Held → Option Outcome → Option Left
left_by b executed h None = None
left_by b executed h (Some o) = where_true (is_due b executed h) (record { tx = h.digest; key = key_lacking o })

-- what these outputs leave, in order of holding
unfoldable pub left_of_outputs : Books → List Execution → List (Digest × Outcome) → List Left
left_of_outputs b executed outs = filter_map (λ (h : Held). left_by b executed h (outcome_for outs h.digest)) b.held
