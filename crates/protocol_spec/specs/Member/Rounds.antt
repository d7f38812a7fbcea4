-- Which held certificates are ready, the rounds of a run, and what is left at its end. Source: Sui Lutris
-- (execution of certificates); that rounds follow the order of holding is this profile's own.
use Rattle.std.specs.Prelude.{ℕ, zero, suc, Bool, true, false, not, ◌&&◌, ◌||◌, List, [], ◌∷◌, ◌++◌, map, filter, find, length, Option, Some, None, option_map, is_some, if◌then◌else◌}
use Rattle.std.specs.List.{list_any, list_all}
use Rattle.digest_core.specs.declared.Digest.{Digest}
use Rattle.chain_types.specs.declared.objects.ObjectId.{ObjectId}
use Rattle.chain_types.specs.declared.objects.ObjectKey.{ObjectKey}
use Rattle.chain_types.specs.declared.objects.Object.{Object}
use Rattle.chain_types.specs.declared.objects.Producer.{Producer}
use Rattle.chain_types.specs.declared.objects.Producer.TheVariants as producers
use Rattle.chain_types.specs.declared.transactions.Input.{Input}
use Rattle.chain_types.specs.declared.transactions.Input.TheVariants as inputs
use Rattle.protocol_spec.specs.declared.pieces.Executed.{Executed}
use Rattle.protocol_spec.specs.declared.answers.Assigned.{Assigned}
use Rattle.protocol_spec.specs.declared.answers.Held.{Held}
use Rattle.protocol_spec.specs.declared.answers.Left.{Left}
use Rattle.chain_types.specs.Equal.{id_eq, key_eq}
use Rattle.chain_types.specs.Digests.{key_of, consumed_keys}
use Rattle.protocol_spec.specs.Chain.Words.{first_of, all_some, repeats, where_true}
use Rattle.protocol_spec.specs.Chain.Tests.{producer_eq, has_key}
use Rattle.protocol_spec.specs.Chain.Keys.{object_key, has_shared_input, fits}
use Rattle.protocol_spec.specs.Block.Execution.{execution, written_keys}
use Rattle.protocol_spec.specs.Member.Versions.{Execution, Version, versions, object_in, is_executed}
use Rattle.protocol_spec.specs.Member.Votes.{shared_key}
use Rattle.protocol_spec.specs.Member.Admission.{Admission, is_admitted, joined_inputs, assigned_of}

-- what a run works on: the opening objects, the held certificates in order of holding, and the admission
pub record Books : Type 0 where
  pub opening : List Object
  pub held : List Held
  pub admission : Admission

-- a wanted version: its key, and who made it; nobody for a shared object that was not assigned
pub record Wanted : Type 0 where
  pub key : ObjectKey
  pub producer : Option Producer

abbrev pub producer_of : Option Digest → Producer
producer_of None = producers.Opening
producer_of (Some tx) = producers.Tx tx

abbrev pub wanted_version : ObjectKey → Option Digest → Wanted
wanted_version key origin = record { key = key; producer = Some (producer_of origin) }

abbrev pub wanted_as : ObjectId → ℕ → Option Assigned → Wanted
wanted_as id initial None = record { key = shared_key id initial; producer = None }
wanted_as id initial (Some a) = record { key = shared_key id a.version; producer = Some a.writer }

abbrev pub is_of_id : ObjectId → Assigned → Bool
is_of_id id a = id_eq a.id id

abbrev pub assigned_id : Option (List Assigned) → ObjectId → Option Assigned
assigned_id None id = None
assigned_id (Some list) id = find (is_of_id id) list

-- the version that an input needs: the named one of the named origin, or the assigned one of its writer
abbrev pub wanted_by : Option (List Assigned) → (Input × Option Digest) → Wanted
wanted_by assigned (inputs.Pure bytes, origin) = record { key = shared_key (record { 0 = record { 0 = [] } }) 0; producer = None }
wanted_by assigned (inputs.Owned r, origin) = wanted_version (key_of r) origin
wanted_by assigned (inputs.Immutable r, origin) = wanted_version (key_of r) origin
wanted_by assigned (inputs.Shared id initial mutable, origin) = wanted_as id initial (assigned_id assigned id)

unfoldable pub wants_of : Admission → Held → List Wanted
wants_of a h = map (wanted_by (assigned_of a h.digest)) (joined_inputs h.cert)

abbrev pub is_wanted : ObjectKey → Option Producer → Version → Bool
is_wanted key None v = false
is_wanted key (Some producer) v = key_eq (object_key v.object) key && producer_eq v.producer producer

-- the object that is wanted, none if it is not present
abbrev pub found : List Version → Wanted → Option Object
found held w = option_map object_in (find (is_wanted w.key w.producer) held)

-- all inputs of a certificate, if all are present
unfoldable pub present : Books → List Execution → Held → Option (List Object)
present b executed h = all_some (map (found (versions b.opening executed)) (wants_of b.admission h))

-- a certificate with a shared input needs its admission
abbrev pub may_run : Books → Held → Bool
may_run b h = not (has_shared_input h.cert.tx) || is_admitted b.admission.admitted h.digest

abbrev pub holds_key : List Version → ObjectKey → Bool
holds_key held key = list_any (λ (v : Version). key_eq (object_key v.object) key) held

-- no written key is there already, and none is written twice
abbrev pub writes_new : List Version → List ObjectKey → Bool
writes_new held keys = not (list_any (holds_key held) keys) && not (repeats key_eq keys)

abbrev pub executes_as : Held → Executed → Execution
executes_as h gave = record { digest = h.digest; consumed = consumed_keys h.cert.tx; gave = gave }

abbrev pub ready_as : Books → List Execution → Held → Executed → Option Execution
ready_as b executed h gave = where_true (writes_new (versions b.opening executed) (written_keys gave)) (executes_as h gave)

abbrev pub ready_on : Books → List Execution → Held → Option (List Object) → Option Execution
ready_on b executed h None = None
ready_on b executed h (Some objects) = if fits h.cert.tx objects then ready_as b executed h (execution h.cert.tx objects) else None

-- what a certificate's execution gives, if it is ready after these
unfoldable pub ready : Books → List Execution → Held → Option Execution
ready b executed h = if not (is_executed executed h.digest) && may_run b h then ready_on b executed h (present b executed h) else None

-- ---- rounds

-- a key that an earlier member of the round writes
abbrev pub clashes : List Execution → Execution → Bool
clashes round x = list_any (λ key. list_any (λ (y : Execution). has_key (written_keys y.gave) key) round) (written_keys x.gave)

abbrev pub round_add : List Execution → Option Execution → List Execution
round_add round None = round
round_add round (Some x) = if clashes round x then round else round ++ x ∷ []

abbrev pub round_among : Books → List Execution → List Execution → List Held → List Execution
round_among b executed round [] = round
round_among b executed round (h ∷ hs) = round_among b executed (round_add round (ready b executed h)) hs

-- the certificates that are ready after these, in order of holding
unfoldable pub round_of : Books → List Execution → List Execution
round_of b executed = round_among b executed [] b.held

-- at most so many rounds; after an empty one all are empty
abbrev pub rounds_within : ℕ → Books → List Execution → List Execution
rounds_within zero b executed = []
rounds_within (suc n) b executed = round_of b executed ++ rounds_within n b (executed ++ round_of b executed)

-- what a run executes, in order: a round holds one certificate at least, or is the last
unfoldable pub rounds : Books → List Execution → List Execution
rounds b executed = rounds_within (length b.held) b executed

-- ---- what is left

abbrev pub is_maker_done : List Execution → Option Producer → Bool
is_maker_done executed None = true
is_maker_done executed (Some producers.Opening) = true
is_maker_done executed (Some (producers.Tx tx)) = is_executed executed tx

abbrev pub is_origin_done : List Execution → Option Digest → Bool
is_origin_done executed None = true
is_origin_done executed (Some tx) = is_executed executed tx

-- not executed, although all its origins and assigned writers are
abbrev pub is_due : Books → List Execution → Held → Bool
is_due b executed h =
    not (is_executed executed h.digest) && may_run b h && list_all (is_origin_done executed) h.cert.origins
    && list_all (λ (w : Wanted). is_maker_done executed w.producer) (wants_of b.admission h)

abbrev pub missing : List Version → Wanted → Option ObjectKey
missing held w = where_true (not (is_some (found held w))) w.key

-- a certificate that is left, with the first wanted version that is not present; with none if its objects do not fit
abbrev pub left_as : Books → List Execution → Held → Left
left_as b executed h = record { tx = h.digest; key = first_of (missing (versions b.opening executed)) (wants_of b.admission h) }

unfoldable pub left : Books → List Execution → List Left
left b executed = map (left_as b executed) (filter (is_due b executed) b.held)
