-- Without a limit of writers each object has room.
use Rattle.std.proofs.Common.{refl}
use Rattle.std.specs.Prelude.{◌≡◌, Bool, true, false, List, [], ◌∷◌, Option, Some, None}
use Rattle.std.specs.List.{list_all}
use Rattle.digest_core.specs.declared.Digest.{Digest}
use Rattle.chain_types.specs.declared.objects.ObjectId.{ObjectId}
use Rattle.protocol_spec.specs.Chain.Words.{first_of}
use Rattle.protocol_spec.specs.declared.answers.Held.{Held}
use Rattle.protocol_spec.specs.Member.Admission.{Admission, is_origin_admitted, mutable_ids, full_id, without_room, deferred_by, deferred_on, pending_certificate}

none-full : (a : Admission) (ids : List ObjectId) → first_of (full_id None a) ids ≡ None
none-full a [] = refl
none-full a (id ∷ ids) = rw (none-full a ids) refl

none-without : (b : Bool) (a : Admission) (h : Held) → without_room b None a h ≡ None
none-without true a h = none-full a (mutable_ids h.cert)
none-without false a h = refl

none-by : (a : Admission) (h : Option Held) → deferred_by None a h ≡ None
none-by a None = refl
none-by a (Some h) = none-without (list_all (is_origin_admitted a) h.cert.origins) a h

pub none-deferred : (a : Admission) (tx : Digest) → deferred_on None a tx ≡ None
unfolding deferred_on
none-deferred a tx = none-by a (pending_certificate a tx)
