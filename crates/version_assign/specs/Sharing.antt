-- An epoch's admission needs no more of its opening than the objects that are shared in it.
use Rattle.std.specs.Prelude.{◌≡◌, ℕ, Bool, false, List, filter, map, Option, Some, None, if◌then◌else◌}
use Rattle.std.specs.List.{list_any}
use Rattle.chain_types.specs.declared.objects.Object.{Object}
use Rattle.chain_types.specs.declared.objects.ObjectId.{ObjectId}
use Rattle.chain_types.specs.Equal.{id_eq}
use Rattle.chain_messages.specs.declared.messages.Certificate.{Certificate}
use Rattle.protocol_spec.specs.declared.answers.Held.{Held}
use Rattle.protocol_spec.specs.Chain.Certificates.{Rules}
use Rattle.protocol_spec.specs.Chain.Words.{Each, repeats}
use Rattle.protocol_spec.specs.Chain.Keys.{is_shared}
use Rattle.protocol_spec.specs.Member.Admission.{Admitted, Admission, entered, joined_inputs, lacks_shared, opening_object, passed_mark}
use Rattle.protocol_spec.specs.Member.Sequence.{Sequence, saw, seen}
use Rattle.version_assign.specs.Calls.{id_of, is_shared_one}

abbrev pub shared_of : List Object → List Object
shared_of opening = filter is_shared_one opening

-- some shared input has no origin, and was not shared as the epoch opened
abbrev pub lacks_any_shared : List Object → Certificate → Bool
lacks_any_shared opening c = list_any (lacks_shared opening) (joined_inputs c)

abbrev pub IsServed : List Object → Admitted → Type 0
IsServed opening x = lacks_any_shared opening x.cert ≡ false

-- no admitted certificate lacks a shared input: so it is before the first entry, and each step keeps it so
abbrev pub HasShared : List Object → Admission → Type 0
HasShared opening a = Each (IsServed opening) a.admitted

-- an object, if it is shared
abbrev pub if_shared : Option Object → Option Object
if_shared None = None
if_shared (Some o) = if is_shared o.owner then Some o else None

-- looking up an id among `kept` gives the opening's object of that id if it is shared, else nothing
abbrev pub KeepsShared : List Object → List Object → Type 0
KeepsShared kept opening = (id : ObjectId) → opening_object kept id ≡ if_shared (opening_object opening id)

-- admission over `kept` is admission over the opening: of each entry and of each mark
pub record ServesAs (kept opening : List Object) : Type 0 where
  pub entered : (writers : Option ℕ) (a : Admission) (h : Held) → HasShared opening a
      → (entered writers kept a h ≡ entered writers opening a h) × HasShared opening (entered writers opening a h)
  pub passed : (writers : Option ℕ) (a : Admission) → HasShared opening a
      → (passed_mark writers kept a ≡ passed_mark writers opening a) × HasShared opening (passed_mark writers opening a)

-- admission over the shared objects of an opening is admission over all of them: of each entry and mark, and of a
-- whole sequence
pub record Serve (opening : List Object) : Type 0 where
  pub entered : (writers : Option ℕ) (a : Admission) (h : Held) → HasShared opening a
      → (entered writers (shared_of opening) a h ≡ entered writers opening a h) × HasShared opening (entered writers opening a h)
  pub passed : (writers : Option ℕ) (a : Admission) → HasShared opening a
      → (passed_mark writers (shared_of opening) a ≡ passed_mark writers opening a) × HasShared opening (passed_mark writers opening a)
  pub saw : (r : Rules) (epoch : ℕ) (q : Sequence) (bytes : List ℕ) → HasShared opening q.admission
      → (saw r (shared_of opening) epoch q bytes ≡ saw r opening epoch q bytes) × HasShared opening (saw r opening epoch q bytes).admission
  pub seen : (r : Rules) (epoch : ℕ) (entries : List (List ℕ))
      → (seen r (shared_of opening) epoch entries ≡ seen r opening epoch entries) × HasShared opening (seen r opening epoch entries).admission

-- it is so for every opening whose objects have distinct ids
abbrev pub SharedServe : Type 0
SharedServe = (opening : List Object) → repeats id_eq (map id_of opening) ≡ false → Serve opening
