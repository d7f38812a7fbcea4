-- What is said of flags, statements and seals is what is said in a world that has them.
use Rattle.std.proofs.Common.{◌≡◌, ap, refl, ℕ, ◌+◌, Bool, List, [], ◌∷◌, map}
use Rattle.std.specs.List.{enumerate_from}
use Rattle.protocol_spec.specs.Chain.Words.{first_of, first_some}
use Rattle.world_spec.specs.World.{Made, WorldOf}
use Rattle.world_spec.specs.Step.{vote_by}
use Rattle.world_lines.specs.SaidVotes.{vote_if}

pub first_from : {S : Type 0} (honest : S → Bool) (w : WorldOf S) (t : Made) (n : ℕ) (seats : List S)
    → first_of (vote_by honest w t) (enumerate_from n seats) ≡ first_of (vote_if w.said t.signed.tx.epoch t.digest) (enumerate_from n (map honest seats))
first_from honest w t n [] = refl
first_from honest w t n (seat ∷ seats) = ap (λ o. first_some (vote_if w.said t.signed.tx.epoch t.digest (n, honest seat) ∷ o ∷ [])) (first_from honest w t (n + 1) seats)
