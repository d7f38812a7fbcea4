-- What two quorums of a committee have in common. Source: Sui Lutris (quorum intersection).
use Rattle.std.specs.Prelude.{◌≡◌, ◌<◌, ◌*◌, ℕ, Bool, true, false, List, length}
use Rattle.protocol_spec.specs.Chain.Committee.{weight_of, total_of, is_quorum}

-- for any two sets that are quorums, and any set with less than a third of the stake, some known member is in
-- both and not in the third
abbrev pub TwoQuorumsMeet : Type 0
TwoQuorumsMeet = (stakes : List ℕ) (a b faulty : ℕ → Bool)
    → is_quorum stakes (weight_of stakes a) ≡ true → is_quorum stakes (weight_of stakes b) ≡ true
    → 3 * weight_of stakes faulty < total_of stakes
    → (m : ℕ) × (m < length stakes) × (a m ≡ true) × (b m ≡ true) × (faulty m ≡ false)
