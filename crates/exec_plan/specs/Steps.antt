-- The loop that collects what a run leaves, over the places of held certificates.
use Rattle.std.specs.Prelude.{ℕ, List, [], ◌∷◌, ◌++◌, Option, Some, None, slice_get}
use Rattle.protocol_spec.specs.declared.answers.Held.{Held}
use Rattle.protocol_spec.specs.declared.answers.Left.{Left}
use Rattle.protocol_spec.specs.Member.Admission.{Admission}
use Rattle.version_store.specs.Stores.{Stored}
use Rattle.exec_plan.specs.Books.{left_in}

-- ---- the places of held certificates

-- `left_in` of the certificate at a place, if there is one
abbrev pub left_of : Stored → Admission → Option Held → Option Left
left_of s a None = None
left_of s a (Some h) = left_in s a h

abbrev pub left_add : List Left → Option Left → List Left
left_add left None = left
left_add left (Some one) = left ++ one ∷ []

-- the list so far, and after it those of these places that are left
abbrev pub left_after : Stored → Admission → List Held → List Left → List ℕ → List Left
left_after s a held left [] = left
left_after s a held left (place ∷ places) = left_after s a held (left_add left (left_of s a (slice_get held place))) places
