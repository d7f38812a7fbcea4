-- The first scene of a set-up.
use Rattle.std.proofs.Common.{◌≡◌, ◌∙◌, ap, ℕ, Bool, List, [], Ok}
use Rattle.std.specs.Prelude.{fold}
use Rattle.chain_types.specs.declared.objects.Object.{Object}
use Rattle.quorum_core.specs.Committee.{committee_of}
use Rattle.schedule_text.specs.declared.words.Setup.{Setup}
use Rattle.world_spec.specs.Setting.{Trust, honest_of, objects_from, setting_of, stakes_of, with_new, writers_of}
use Rattle.world_spec.specs.World.{Formed, Said}
use Rattle.world_spec.specs.Known.{Known, known_by}
use Rattle.world_spec.specs.Terms.{Terms}
use Rattle.world_spec.specs.Posts.{new_posts}
use Rattle.world_spec.specs.Scene.{Scene, new_scene}
use Rattle.world_lines.specs.Orders.{Orders, no_orders}
use Rattle.world_core.specs.Crews.{Crew}
use Rattle.world_core.proofs.Sound.{stakes_same}

abbrev scene : Crew → List Object → Known → Orders → List Said → List Formed → Scene
scene crew opening known orders said certs = record { terms = crew.terms; opening = opening; known = known; sequences = orders.sequences; epoch = orders.epoch; said = said; certs = certs; posts = crew.posts }

abbrev pub crew_of : Terms → List Object → List Bool → Crew
crew_of terms opening flags = record { terms = terms; posts = new_posts terms opening 0 flags }

abbrev terms_in : List ℕ → List Setup → Terms
terms_in stakes lines = record { stakes = stakes; writers = writers_of lines }

abbrev opening_in : List Setup → List Object
opening_in lines = fold with_new [] (objects_from 0 lines)

pub scene_first : (trust : Trust) (lines : List Setup) (c : List ℕ) (flags : List Bool) (opening : List Object) (known : Known) (orders : Orders) (said : List Said) (certs : List Formed) (crew : Crew)
    → committee_of (stakes_of lines) ≡ Ok c → flags ≡ honest_of lines → opening ≡ opening_in lines → known ≡ known_by lines → orders ≡ no_orders → said ≡ [] → certs ≡ []
    → crew ≡ crew_of (terms_in c lines) opening flags → scene crew opening known orders said certs ≡ new_scene (setting_of trust lines) lines
unfolding setting_of
scene_first trust lines c flags opening known orders said certs crew is f o k q s e w =
    let whole : crew ≡ crew_of (terms_in (stakes_of lines) lines) (opening_in lines) (honest_of lines) =
    w ∙ ap (λ x. crew_of (terms_in x lines) opening flags) (stakes_same (stakes_of lines) c is) ∙ ap (λ x. crew_of (terms_in (stakes_of lines) lines) x flags) o ∙ ap (λ x. crew_of (terms_in (stakes_of lines) lines) (opening_in lines) x) f in
    ap (λ x. scene x opening known orders said certs) whole
    ∙ ap (λ x. scene (crew_of (terms_in (stakes_of lines) lines) (opening_in lines) (honest_of lines)) x known orders said certs) o
    ∙ ap (λ x. scene (crew_of (terms_in (stakes_of lines) lines) (opening_in lines) (honest_of lines)) (opening_in lines) x orders said certs) k
    ∙ ap (λ x. scene (crew_of (terms_in (stakes_of lines) lines) (opening_in lines) (honest_of lines)) (opening_in lines) (known_by lines) x said certs) q
    ∙ ap (λ x. scene (crew_of (terms_in (stakes_of lines) lines) (opening_in lines) (honest_of lines)) (opening_in lines) (known_by lines) no_orders x certs) s
    ∙ ap (λ x. scene (crew_of (terms_in (stakes_of lines) lines) (opening_in lines) (honest_of lines)) (opening_in lines) (known_by lines) no_orders [] x) e
