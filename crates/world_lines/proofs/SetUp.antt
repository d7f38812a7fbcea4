-- The set-up, line by line, names what its definition says.
use Rattle.std.proofs.Common.{◌≡◌, ◌∙◌, ap, sym, ℕ, ◌+◌, List, [], ◌∷◌, ◌++◌, length, append_assoc, append-nil}
use Rattle.std.proofs.lemmas.List.{length-append}
use Rattle.schedule_text.specs.declared.words.Setup.{Setup}
use Rattle.schedule_text.specs.declared.words.Setup.TheVariants as line
use Rattle.world_spec.specs.Setting.{Name, Thing, User, things_from, owners_of, thing_id, user_of}
use Rattle.world_spec.specs.Known.{Known, known_by}
use Rattle.world_lines.specs.SetUp.{with_all, with_setup}

-- what more lines name after these things and users
abbrev behind : Known → List Setup → Known
behind k lines = record k { things = k.things ++ things_from (length k.things) lines; users = k.users ++ owners_of lines }

thing_more : (k : Known) (name : Name) (rest : ℕ → List Thing)
    → (k.things ++ record { name = name; id = thing_id (length k.things) } ∷ []) ++ rest (length (k.things ++ record { name = name; id = thing_id (length k.things) } ∷ []))
    ≡ k.things ++ record { name = name; id = thing_id (length k.things) } ∷ rest (length k.things + 1)
thing_more k name rest =
    ap (λ n. (k.things ++ record { name = name; id = thing_id (length k.things) } ∷ []) ++ rest n) (length-append k.things (record { name = name; id = thing_id (length k.things) } ∷ []))
    ∙ append_assoc k.things (record { name = name; id = thing_id (length k.things) } ∷ []) (rest (length k.things + 1))

goes_on : (k : Known) (lines : List Setup) → with_all k lines ≡ behind k lines
goes_on k [] = ap (λ (ts : List Thing). let b : Known = record k { things = ts; users = k.users } in b) (sym (append-nil k.things)) ∙ ap (λ (us : List User). let b : Known = record k { things = k.things ++ []; users = us } in b) (sym (append-nil k.users))
goes_on k (line.Member stake honest ∷ lines) = goes_on k lines
goes_on k (line.Writers n ∷ lines) = goes_on k lines
goes_on k (line.Counter name value ∷ lines) =
    goes_on (with_setup k (line.Counter name value)) lines
    ∙ ap (λ (ts : List Thing). let b : Known = record k { things = ts; users = k.users ++ owners_of lines } in b) (thing_more k name (λ n. things_from n lines))
goes_on k (line.Coin name who balance ∷ lines) =
    goes_on (with_setup k (line.Coin name who balance)) lines
    ∙ ap (λ (ts : List Thing). let b : Known = record k { things = ts; users = (k.users ++ user_of who ∷ []) ++ owners_of lines } in b) (thing_more k name (λ n. things_from n lines))
    ∙ ap (λ (us : List User). let b : Known = record k { things = k.things ++ record { name = name; id = thing_id (length k.things) } ∷ things_from (length k.things + 1) lines; users = us } in b) (append_assoc k.users (user_of who ∷ []) (owners_of lines))
goes_on k (line.Cap name who currency ∷ lines) =
    goes_on (with_setup k (line.Cap name who currency)) lines
    ∙ ap (λ (ts : List Thing). let b : Known = record k { things = ts; users = (k.users ++ user_of who ∷ []) ++ owners_of lines } in b) (thing_more k name (λ n. things_from n lines))
    ∙ ap (λ (us : List User). let b : Known = record k { things = k.things ++ record { name = name; id = thing_id (length k.things) } ∷ things_from (length k.things + 1) lines; users = us } in b) (append_assoc k.users (user_of who ∷ []) (owners_of lines))

-- all lines, from nothing
pub all_known : (lines : List Setup) → with_all (record { things = []; users = []; txs = []; drawn = [] }) lines ≡ known_by lines
all_known lines = goes_on (record { things = []; users = []; txs = []; drawn = [] }) lines
