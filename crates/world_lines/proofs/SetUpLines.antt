-- The set-up, line by line, makes what its definitions say.
use Rattle.std.proofs.Common.{◌≡◌, ◌∙◌, ap, sym, ℕ, ◌+◌, Bool, List, [], ◌∷◌, ◌++◌, length, append_assoc, append-nil}
use Rattle.std.specs.Prelude.{fold}
use Rattle.std.proofs.lemmas.List.{length-append}
use Rattle.chain_types.specs.declared.objects.Object.{Object}
use Rattle.chain_types.specs.declared.objects.Content.TheVariants as content
use Rattle.schedule_text.specs.declared.words.Setup.{Setup}
use Rattle.schedule_text.specs.declared.words.Setup.TheVariants as line
use Rattle.world_spec.specs.Setting.{honest_of, objects_from, owned_thing, shared_thing, stakes_of}
use Rattle.world_lines.specs.Openings.{with_flag, with_object, with_stake}

stakes_go_on : (stakes : List ℕ) (lines : List Setup) → fold with_stake stakes lines ≡ stakes ++ stakes_of lines
stakes_go_on stakes [] = sym (append-nil stakes)
stakes_go_on stakes (line.Member stake honest ∷ lines) = stakes_go_on (stakes ++ stake ∷ []) lines ∙ append_assoc stakes (stake ∷ []) (stakes_of lines)
stakes_go_on stakes (line.Coin name who balance ∷ lines) = stakes_go_on stakes lines
stakes_go_on stakes (line.Counter name value ∷ lines) = stakes_go_on stakes lines
stakes_go_on stakes (line.Cap name who currency ∷ lines) = stakes_go_on stakes lines
stakes_go_on stakes (line.Writers n ∷ lines) = stakes_go_on stakes lines

pub all_stakes : (lines : List Setup) → fold with_stake [] lines ≡ stakes_of lines
all_stakes lines = stakes_go_on [] lines

flags_go_on : (flags : List Bool) (lines : List Setup) → fold with_flag flags lines ≡ flags ++ honest_of lines
flags_go_on flags [] = sym (append-nil flags)
flags_go_on flags (line.Member stake honest ∷ lines) = flags_go_on (flags ++ honest ∷ []) lines ∙ append_assoc flags (honest ∷ []) (honest_of lines)
flags_go_on flags (line.Coin name who balance ∷ lines) = flags_go_on flags lines
flags_go_on flags (line.Counter name value ∷ lines) = flags_go_on flags lines
flags_go_on flags (line.Cap name who currency ∷ lines) = flags_go_on flags lines
flags_go_on flags (line.Writers n ∷ lines) = flags_go_on flags lines

pub all_flags : (lines : List Setup) → fold with_flag [] lines ≡ honest_of lines
all_flags lines = flags_go_on [] lines

-- one more object, and those after it
object_more : (objects : List Object) (o : Object) (rest : ℕ → List Object)
    → (objects ++ o ∷ []) ++ rest (length (objects ++ o ∷ [])) ≡ objects ++ o ∷ rest (length objects + 1)
object_more objects o rest =
    ap (λ n. (objects ++ o ∷ []) ++ rest n) (length-append objects (o ∷ []))
    ∙ append_assoc objects (o ∷ []) (rest (length objects + 1))

objects_go_on : (objects : List Object) (lines : List Setup) → fold with_object objects lines ≡ objects ++ objects_from (length objects) lines
objects_go_on objects [] = sym (append-nil objects)
objects_go_on objects (line.Member stake honest ∷ lines) = objects_go_on objects lines
objects_go_on objects (line.Writers n ∷ lines) = objects_go_on objects lines
objects_go_on objects (line.Coin name who balance ∷ lines) =
    objects_go_on (objects ++ owned_thing (length objects) who (content.Coin 0 balance) ∷ []) lines
    ∙ object_more objects (owned_thing (length objects) who (content.Coin 0 balance)) (λ n. objects_from n lines)
objects_go_on objects (line.Counter name value ∷ lines) =
    objects_go_on (objects ++ shared_thing (length objects) (content.Counter value) ∷ []) lines
    ∙ object_more objects (shared_thing (length objects) (content.Counter value)) (λ n. objects_from n lines)
objects_go_on objects (line.Cap name who currency ∷ lines) =
    objects_go_on (objects ++ owned_thing (length objects) who (content.Cap currency 0) ∷ []) lines
    ∙ object_more objects (owned_thing (length objects) who (content.Cap currency 0)) (λ n. objects_from n lines)

pub all_objects : (lines : List Setup) → fold with_object [] lines ≡ objects_from 0 lines
all_objects lines = objects_go_on [] lines
