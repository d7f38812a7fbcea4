-- What is said of a world, and how a question ends.
use Rattle.std.proofs.Common.{◌≡◌, ◌⊎◌, inl, inr, ℕ, zero, suc, Bool, true, false, List, [], ◌∷◌, map, Option, Some, None, Result, if◌then◌else◌, refl, sym, ap, subst, ◌∙◌}
use Rattle.std.specs.Prelude.{option_map, length, slice_get}
use Rattle.std.specs.Io.KnownBytes.{Keeps}
use Rattle.outside.specs.Lists.{Journals}
use Rattle.outside.specs.Streams.{AppendsFront}
use Rattle.schedule_text.specs.declared.words.Event.{Event}
use Rattle.schedule_text.specs.declared.words.Schedule.{Schedule}
use Rattle.schedule_text.specs.Schedule.{Refused, lines_of, schedule_of}
use Rattle.world_spec.specs.Names.{cert_in, tx_name}
use Rattle.world_spec.specs.Setting.{Setting}
use Rattle.world_spec.specs.World as worlds
use Rattle.world_spec.specs.World.{World, member_in, seat_honest}
use Rattle.world_spec.specs.Run.{world_after}
use Rattle.world_spec.specs.Seats.{Seated}
use Rattle.world_spec.specs.Posts.{seat_at}
use Rattle.world_spec.specs.Terms.{terms_of}
use Rattle.world_spec.specs.Scene.{Scene}
use Rattle.world_spec.specs.Known.{Known, names_of}
use Rattle.world_spec.specs.SceneWorlds.{Shows, posts_from}
use Rattle.world_core.specs.Crews.{honest_at, honest_flags}
use Rattle.light_check.specs.Certified.{Accepting}
use Rattle.committee_core.proofs.Whole.{whole_fronts}
use Rattle.committee_core.specs.Headline.{program_trust}
use Rattle.committee_core.specs.Report.{setting_in}
use Rattle.committee_core.specs.Ways.{RunsSilently}
use Rattle.inspect.specs.declared.questions.Question.{Question}
use Rattle.inspect.specs.declared.questions.Question.TheVariants as question
use Rattle.inspect.specs.Chain.{SaysChain, nobody, sealed, unsealed}
use Rattle.inspect.specs.Digests.{SaysDigests, alone, standing}
use Rattle.inspect.specs.Ends.{CutsText, KeepsSome, RunsAndSays, Says, SaysBehind, SaysOf, SaysSome, Writing}
use Rattle.inspect.specs.Sight.{Sight, events_in, sight_behind, sight_in, sight_of}
use Rattle.inspect.specs.StateLines.{SaysStatesAt, missing, there}
use Rattle.committee_core.specs.Follow.{state_in}
use Rattle.inspect.specs.Standing.{States}
use Rattle.inspect.proofs.Statuses.{IsSaid, said_or_fault}

-- ---- the members as the code sees them are those of the world

state_same : (s : Setting) (n : ℕ) (seats : List worlds.Seat) (m : ℕ) → option_map (λ (seat : Seated). seat.state) (honest_at (slice_get (posts_from s n seats) m)) ≡ state_in s (slice_get seats m)
state_same s n [] m = refl
state_same s n (seat ∷ seats) zero = go seat.honest seat.up
  where
    go : (honest up : Bool) → option_map (λ (x : Seated). x.state) (if honest then (if up then Some (seat_at (terms_of s.rules) n (member_in s seat)) else None) else None)
        ≡ (if honest then (if up then Some (member_in s seat) else None) else None)
    go false up = refl
    go true false = refl
    go true true = refl
state_same s n (seat ∷ seats) (suc m) = state_same s (suc n) seats m

-- the flags of the members as the code sees them are those of the world
flags_same : (s : Setting) (n : ℕ) (seats : List worlds.Seat) → honest_flags (posts_from s n seats) ≡ map seat_honest seats
flags_same s n [] = refl
flags_same s n (seat ∷ seats) = ap (λ (flags : List Bool). seat.honest ∷ flags) (flags_same s (suc n) seats)

-- all that the questions look at is the same for the code's scene and the definition's world
sight_same : (s : Setting) (w : World) (sc : Scene) (events : List Event) (lines : ℕ) → Shows program_trust s w sc → sight_in sc events lines ≡ sight_of s w events lines
sight_same s w sc events lines shows = ap (λ (x : Scene). sight_in x events lines) shows.scene ∙ (λ i. record {
  states = λ m. state_same s 0 w.seats m i;
  crew = flags_same s 0 w.seats i;
  rules = sym shows.rules i;
  known = names_of s w;
  names = tx_name w;
  formed = map cert_in w.certs;
  events = events;
  lines = lines;
})

-- ---- statuses

chain_said : (accepts : Accepting) (states : States) (m : ℕ) (members : List ℕ) (status : ℕ) (text : List ℕ) → SaysChain accepts states m members status text → IsSaid status
chain_said accepts states m members status text (sealed is) = inl is.done
chain_said accepts states m members status text (nobody is) = inr is.refused
chain_said accepts states m members status text (unsealed is) = inr is.refused

digests_said : (k : Known) (states : States) (status : ℕ) (text : List ℕ) → SaysDigests k states status text → IsSaid status
digests_said k states status text (standing is) = inl is.done
digests_said k states status text (alone is) = inl is.done

states_said : (line lines : ℕ) (k : Known) (crew : List Bool) (states : States) (status : ℕ) (text : List ℕ) → SaysStatesAt line lines k crew states status text → IsSaid status
states_said line lines k crew states status text (there is) = inl is.says.done
states_said line lines k crew states status text (missing is) = inr is.refused

pub is_said : (q : Question) (x : Sight) (status : ℕ) (text : List ℕ) → Says q x status text → IsSaid status
is_said (question.Chain m members) x status text says = chain_said program_trust.accepts x.states m members status text says
is_said question.Digests x status text says = digests_said x.known x.states status text says
is_said question.Blame x status text says = inl says.done
is_said question.States x status text says = inl says.done
is_said (question.StatesAt line) x status text says = states_said line x.lines x.known x.crew x.states status text says

-- ---- one answer

pub answer_known : (status given : ℕ) → IsSaid given → (status ≡ given) ⊎ (status ≡ 5) ⊎ (status ≡ 7) → (status ≡ 0) ⊎ (status ≡ 5) ⊎ (status ≡ 7) ⊎ (status ≡ 8)
answer_known status given (inl nil) (inl is) = inl (is ∙ nil)
answer_known status given (inr eight) (inl is) = inr (inr (inr (is ∙ eight)))
answer_known status given said (inr (inl five)) = inr (inl five)
answer_known status given said (inr (inr seven)) = inr (inr (inl seven))

is_given : (status given : ℕ) → (status ≡ given) ⊎ (status ≡ 5) ⊎ (status ≡ 7) → IsSaid status → status ≡ given
is_given status given (inl is) said = is
is_given status given (inr fault) said = said_or_fault status said fault

pub answer_written : (q : Question) (x : Sight) (status given : ℕ) (text : List ℕ) (Written : Writing) → Says q x given text → (status ≡ given) ⊎ (status ≡ 5) ⊎ (status ≡ 7)
    → (status ≡ given → Written text) → IsSaid status → SaysOf q x status Written
answer_written q x status given text Written says known written said =
    let is : status ≡ given = is_given status given known said in
    (text, subst (λ (n : ℕ). Says q x n text) (sym is) says, written is)

-- ---- the whole

said_behind : (q : Question) (text : List ℕ) (status : ℕ) (Written : Writing) (kept kept' : Option Journals) (sc : Scene) → (runs : RunsSilently program_trust text kept kept' sc)
    → SaysOf q (sight_behind sc text) status Written → SaysBehind q text runs.schedule kept status Written
said_behind q text status Written kept kept' sc runs said = λ reads.
    subst (λ (x : Sight). SaysOf q x status Written)
    (ap (λ (r : Result Schedule Refused). sight_in sc (events_in r) (length (lines_of text))) runs.is
    ∙ sight_same (setting_in program_trust runs.schedule) (world_after (setting_in program_trust runs.schedule) runs.schedule.events) sc runs.schedule.events (length (lines_of text)) (runs.shows reads)) said

pub ran_said : (q : Question) (text : List ℕ) (status : ℕ) (Written : Writing) (kept kept' : Option Journals) (sc : Scene) → RunsSilently program_trust text kept kept' sc
    → SaysOf q (sight_behind sc text) status Written → RunsAndSays q text status Written kept kept'
ran_said q text status Written kept kept' sc runs said = record {
  schedule = runs.schedule;
  is = runs.is;
  journals = runs.journals;
  says = said_behind q text status Written kept kept' sc runs said;
}

pub ran_cut : (q : Question) (text : List ℕ) (held held' : Option (List ℕ)) (kept kept' : Option Journals) (sc : Scene) → RunsSilently program_trust text kept kept' sc
    → Keeps held held' ⊎ ((status : ℕ) × SaysOf q (sight_behind sc text) status (AppendsFront held held')) → CutsText q text held held' kept kept'
ran_cut q text held held' kept kept' sc runs cut = record {
  journals = subst (λ (r : Result Schedule Refused). KeepsSome r kept kept') (sym runs.is) (whole_fronts program_trust runs.schedule kept kept' runs.journals);
  written = go cut;
}
  where
    go : Keeps held held' ⊎ ((status : ℕ) × SaysOf q (sight_behind sc text) status (AppendsFront held held')) → Keeps held held' ⊎ SaysSome q text (schedule_of text) kept (AppendsFront held held')
    go (inl keeps) = inl keeps
    go (inr (status, said)) = inr (subst (λ (r : Result Schedule Refused). SaysSome q text r kept (AppendsFront held held')) (sym runs.is)
        (status, said_behind q text status (AppendsFront held held') kept kept' sc runs said))
