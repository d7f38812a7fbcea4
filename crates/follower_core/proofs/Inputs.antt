-- What a transaction reads, one input after the other.
use Rattle.std.proofs.Common.{◌≡◌, Bool, true, false, cond, List, [], ◌∷◌, ◌++◌, Option, Some, None, map, filter, refl, ap, sym, ◌∙◌, append-nil, append_assoc}
use Rattle.std.specs.FinMap.{get}
use Rattle.chain_types.specs.declared.objects.Object.{Object}
use Rattle.chain_types.specs.declared.transactions.Input.{Input}
use Rattle.chain_types.specs.declared.transactions.Transaction.{Transaction}
use Rattle.chain_types.specs.Digests.{is_object}
use Rattle.protocol_spec.specs.Chain.Words.{all_some, onto_some}
use Rattle.protocol_spec.specs.Member.Sequential.{Objects, at_version, named_in, read_by}
use Rattle.follower_core.specs.Steps.{reads_from, with_read}

-- the objects before those that are found
behind_these : List Object → Option (List Object) → Option (List Object)
behind_these done None = None
behind_these done (Some os) = Some (done ++ os)

one_more : (done : List Object) (o : Object) (found : Option (List Object)) → behind_these (done ++ o ∷ []) found ≡ behind_these done (onto_some o found)
unfolding behind_these
one_more done o None = refl
one_more done o (Some os) = ap Some (append_assoc done (o ∷ []) os)

reads_is : (m : Objects) (is : List Input) (done : List Object) → reads_from m (Some done) is ≡ behind_these done (all_some (map (named_in m) (filter is_object is)))
unfolding behind_these
reads_is m [] done = ap Some (sym (append-nil done))
reads_is m (i ∷ is) done = by (is_object i) (reads_is m is)
  where
    found : (o : Option Object) → ((done : List Object) → reads_from m (Some done) is ≡ behind_these done (all_some (map (named_in m) (filter is_object is))))
        → reads_from m (with_read done o) is ≡ behind_these done (all_some (o ∷ map (named_in m) (filter is_object is)))
    found None others = refl
    found (Some o) others = others (done ++ o ∷ []) ∙ one_more done o (all_some (map (named_in m) (filter is_object is)))

    by : (b : Bool) → ((done : List Object) → reads_from m (Some done) is ≡ behind_these done (all_some (map (named_in m) (filter is_object is))))
        → reads_from m (cond b (with_read done (named_in m i)) (Some done)) is ≡ behind_these done (all_some (map (named_in m) (cond b (i ∷ filter is_object is) (filter is_object is))))
    by true others = found (named_in m i) others
    by false others = others done

front_of : (gas : Object) (found : Option (List Object)) → behind_these (gas ∷ []) found ≡ onto_some gas found
unfolding behind_these
front_of gas None = refl
front_of gas (Some os) = refl

pub read_all : (m : Objects) (t : Transaction) (gas : Object) → Some gas ≡ at_version t.gas.version (get m t.gas.id) → reads_from m (Some (gas ∷ [])) t.inputs ≡ read_by m t
read_all m t gas is =
    reads_is m t.inputs (gas ∷ [])
    ∙ front_of gas (all_some (map (named_in m) (filter is_object t.inputs)))
    ∙ ap (λ (o : Option Object). all_some (o ∷ map (named_in m) (filter is_object t.inputs))) is

pub read_none : (m : Objects) (t : Transaction) → None ≡ at_version t.gas.version (get m t.gas.id) → None ≡ read_by m t
read_none m t is = ap (λ (o : Option Object). all_some (o ∷ map (named_in m) (filter is_object t.inputs))) is
