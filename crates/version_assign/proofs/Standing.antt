-- The current versions of shared objects, from what is known of each object; and after one more that is admitted.
use Rattle.std.proofs.Common.{◌≡◌, ℕ, suc, Bool, true, false, cond, List, [], ◌∷◌, ◌++◌, Option, Some, None, length, map, refl, ap, sym, ◌∙◌, arith, max}
use Rattle.std.specs.Prelude.{filter, filter_map, fold, option_map}
use Rattle.chain_types.specs.declared.objects.Object.{Object}
use Rattle.chain_types.specs.declared.objects.ObjectId.{ObjectId}
use Rattle.chain_types.specs.declared.transactions.Input.{Input}
use Rattle.chain_types.specs.declared.transactions.Input.TheVariants as inputs
use Rattle.chain_types.specs.Digests.{is_object, lamport_version}
use Rattle.chain_messages.specs.declared.messages.Certificate.{Certificate}
use Rattle.protocol_spec.specs.declared.answers.Assigned.{Assigned}
use Rattle.protocol_spec.specs.Chain.Words.{Each, first_of, first_some, last_where, where_true}
use Rattle.protocol_spec.specs.Chain.Keys.{objects_of}
use Rattle.protocol_spec.specs.Member.Admission.{Admitted, Standing, assigned_to, assignment, assignments, beginning_by, begins, cert_of, current, joined_inputs, standing_after, standing_or, taken_version, version_at_admission, writes}
use Rattle.version_assign.specs.Books.{begun_of, stands}
use Rattle.version_assign.specs.Lines.{LineMap, begun, filled, greater_assigned, greater_named, greatest_of, line_at, named_version, standing_as}
use Rattle.version_assign.proofs.Naming.{Begins, Joined, input_in, inputs_are, standing_in}

-- ---- the current version

first_of_push : {A B : Type 0} → (f : A → Option B) (xs : List A) (x : A) → first_of f (xs ++ x ∷ []) ≡ first_some (first_of f xs ∷ f x ∷ [])
first_of_push f [] x = last (f x)
  where
    last : {C : Type 0} → (o : Option C) → first_some (o ∷ None ∷ []) ≡ first_some (o ∷ [])
    last None = refl
    last (Some y) = refl
first_of_push {A} {B} f (y ∷ ys) x = ap (λ o. first_some (f y ∷ o ∷ [])) (first_of_push f ys x) ∙ group (f y) (first_of f ys) (f x)
  where
    group : (a b c : Option B) → first_some (a ∷ first_some (b ∷ c ∷ []) ∷ []) ≡ first_some (first_some (a ∷ b ∷ []) ∷ c ∷ [])
    group (Some a) b c = refl
    group None (Some b) c = refl
    group None None None = refl
    group None None (Some c) = refl

regroup : {B : Type 0} → (a b c : Option B) → first_some (a ∷ first_some (b ∷ c ∷ []) ∷ []) ≡ first_some (first_some (a ∷ b ∷ []) ∷ c ∷ [])
regroup (Some a) b c = refl
regroup None (Some b) c = refl
regroup None None None = refl
regroup None None (Some c) = refl

-- what stood before, and else what the certificate says
abbrev pub now_stands : List Object → List Admitted → Certificate → ObjectId → Option Standing
now_stands opening earlier c id = first_some (stands opening earlier id ∷ beginning_by opening id c ∷ [])

now_first : (opening : List Object) (earlier : List Admitted) (c : Certificate) (id : ObjectId)
    → first_some (option_map standing_after (last_where (writes id) earlier) ∷ first_of (beginning_by opening id) (map cert_of earlier ++ c ∷ []) ∷ []) ≡ now_stands opening earlier c id
now_first opening earlier c id =
    ap (λ o. first_some (option_map standing_after (last_where (writes id) earlier) ∷ o ∷ [])) (first_of_push (beginning_by opening id) (map cert_of earlier) c)
    ∙ regroup (option_map standing_after (last_where (writes id) earlier)) (first_of (beginning_by opening id) (map cert_of earlier)) (beginning_by opening id c)

pub current_is : (opening : List Object) (earlier : List Admitted) (c : Certificate) (id : ObjectId) → current opening earlier c id ≡ standing_or (now_stands opening earlier c id)
unfolding current
current_is opening earlier c id = ap standing_or (now_first opening earlier c id)

-- ---- what is assigned

-- the current version, in place of the one at the beginning
abbrev pub assigned_now : List Object → List Admitted → Certificate → Assigned → Assigned
assigned_now opening earlier c x = assigned_to (current opening earlier c x.id) x.id x.mutable

assigned_joined : (opening : List Object) (earlier : List Admitted) (c : Certificate) (js : Joined) → filter_map (assignment opening earlier c) (map input_in js) ≡ map (assigned_now opening earlier c) (filter_map (begun opening) js)
assigned_joined opening earlier c [] = refl
assigned_joined opening earlier c ((inputs.Pure bytes, o) ∷ js) = assigned_joined opening earlier c js
assigned_joined opening earlier c ((inputs.Owned r, o) ∷ js) = assigned_joined opening earlier c js
assigned_joined opening earlier c ((inputs.Immutable r, o) ∷ js) = assigned_joined opening earlier c js
assigned_joined opening earlier c ((inputs.Shared y n m, o) ∷ js) = ap (λ xs. assigned_to (current opening earlier c y) y m ∷ xs) (assigned_joined opening earlier c js)

one_filled : (opening : List Object) (earlier : List Admitted) (c : Certificate) (lines : LineMap) (x : Assigned) → (line_at lines x.id).standing ≡ stands opening earlier x.id
    → beginning_by opening x.id c ≡ Some (standing_in x) → filled lines x ≡ assigned_now opening earlier c x
one_filled opening earlier c lines x known begins =
    ap (standing_as x) known ∙ go (stands opening earlier x.id) refl
  where
    go : (o : Option Standing) → stands opening earlier x.id ≡ o → standing_as x o ≡ assigned_now opening earlier c x
    go None is = sym (ap (λ (s : Standing). assigned_to s x.id x.mutable) (current_is opening earlier c x.id ∙ ap (λ p. standing_or (first_some (p ∷ beginning_by opening x.id c ∷ []))) is ∙ ap (λ p. standing_or (first_some (None ∷ p ∷ []))) begins))
    go (Some s) is = sym (ap (λ (s : Standing). assigned_to s x.id x.mutable) (current_is opening earlier c x.id ∙ ap (λ p. standing_or (first_some (p ∷ beginning_by opening x.id c ∷ []))) is))

pub all_filled : (opening : List Object) (earlier : List Admitted) (c : Certificate) (lines : LineMap) (xs : List Assigned) → ((id : ObjectId) → (line_at lines id).standing ≡ stands opening earlier id)
    → Each (Begins opening (joined_inputs c)) xs → map (filled lines) xs ≡ map (assigned_now opening earlier c) xs
all_filled opening earlier c lines [] known all = refl
all_filled opening earlier c lines (x ∷ xs) known all =
    ap (λ y. y ∷ map (filled lines) xs) (one_filled opening earlier c lines x (known x.id) all.0)
    ∙ ap (λ ys. assigned_now opening earlier c x ∷ ys) (all_filled opening earlier c lines xs known all.1)

pub filled_is : (opening : List Object) (earlier : List Admitted) (c : Certificate) (lines : LineMap) → length c.origins ≡ length (objects_of c.tx) → ((id : ObjectId) → (line_at lines id).standing ≡ stands opening earlier id)
    → Each (Begins opening (joined_inputs c)) (begun_of opening c) → map (filled lines) (begun_of opening c) ≡ assignments opening earlier c
filled_is opening earlier c lines origins known all =
    all_filled opening earlier c lines (begun_of opening c) known all
    ∙ sym (assigned_joined opening earlier c (joined_inputs c))
    ∙ ap (filter_map (assignment opening earlier c)) (inputs_are c origins)

-- ---- the version

greater_moved : (is : List Input) (g v : ℕ) → fold greater_named (max g v) is ≡ max (fold greater_named g is) v
greater_moved [] g v = refl
greater_moved (i ∷ is) g v = ap (λ n. fold greater_named n is) (swapped g v (named_version i)) ∙ greater_moved is (max g (named_version i)) v
  where
    swapped : (a b c : ℕ) → max (max a b) c ≡ max (max a c) b
    swapped a b c = omega arith

max_zero : (g : ℕ) → max g 0 ≡ g
max_zero g = omega arith

-- the versions of the objects, the named ones and the assigned ones apart
greatest_joined : (opening : List Object) (earlier : List Admitted) (c : Certificate) (js : Joined) (g : ℕ)
    → fold max g (map (taken_version opening earlier c) (map input_in js)) ≡ fold greater_assigned (fold greater_named g (map input_in js)) (map (assigned_now opening earlier c) (filter_map (begun opening) js))
greatest_joined opening earlier c [] g = refl
greatest_joined opening earlier c ((inputs.Pure bytes, o) ∷ js) g = greatest_joined opening earlier c js (max g 0)
greatest_joined opening earlier c ((inputs.Owned r, o) ∷ js) g = greatest_joined opening earlier c js (max g r.version)
greatest_joined opening earlier c ((inputs.Immutable r, o) ∷ js) g = greatest_joined opening earlier c js (max g r.version)
greatest_joined opening earlier c ((inputs.Shared y n m, o) ∷ js) g =
    greatest_joined opening earlier c js (max g (current opening earlier c y).0)
    ∙ ap (λ n. fold greater_assigned n (map (assigned_now opening earlier c) (filter_map (begun opening) js)))
    (greater_moved (map input_in js) g (current opening earlier c y).0
    ∙ ap (λ k. max (fold greater_named k (map input_in js)) (current opening earlier c y).0) (sym (max_zero g)))

objects_greatest : (is : List Input) (g : ℕ) → fold greater_named g (filter is_object is) ≡ fold greater_named g is
objects_greatest [] g = refl
objects_greatest (inputs.Pure bytes ∷ is) g = objects_greatest is g ∙ ap (λ k. fold greater_named k is) (sym (max_zero g))
objects_greatest (inputs.Owned r ∷ is) g = objects_greatest is (max g r.version)
objects_greatest (inputs.Immutable r ∷ is) g = objects_greatest is (max g r.version)
objects_greatest (inputs.Shared y n m ∷ is) g = objects_greatest is (max g 0)

pub version_is : (opening : List Object) (earlier : List Admitted) (c : Certificate) (assigned : List Assigned) → length c.origins ≡ length (objects_of c.tx)
    → assigned ≡ map (assigned_now opening earlier c) (begun_of opening c) → suc (greatest_of c.tx.gas.version c.tx.inputs assigned) ≡ version_at_admission opening earlier c
unfolding lamport_version
version_is opening earlier c assigned origins are =
    ap suc (
    ap (fold greater_assigned (fold greater_named c.tx.gas.version c.tx.inputs)) are
    ∙ ap (λ n. fold greater_assigned n (map (assigned_now opening earlier c) (begun_of opening c)))
    (sym (objects_greatest c.tx.inputs c.tx.gas.version) ∙ ap (λ n. fold greater_named n (filter is_object c.tx.inputs)) (sym (zero_max c.tx.gas.version))
    ∙ ap (fold greater_named 0) (sym (inputs_are c origins)))
    ∙ sym (greatest_joined opening earlier c (joined_inputs c) 0)
    ∙ ap (λ is. fold max 0 (map (taken_version opening earlier c) is)) (inputs_are c origins))
  where
    zero_max : (g : ℕ) → max 0 g ≡ g
    zero_max g = omega arith

-- ---- what stands after one more

last_push : {A : Type 0} → (test : A → Bool) (xs : List A) (x : A) → last_where test (xs ++ x ∷ []) ≡ cond (test x) (Some x) (last_where test xs)
last_push test [] x = by (test x)
  where
    by : (b : Bool) → first_some (None ∷ where_true b x ∷ []) ≡ cond b (Some x) None
    by true = refl
    by false = refl
last_push test (y ∷ ys) x = ap (λ o. first_some (o ∷ where_true (test y) y ∷ [])) (last_push test ys x) ∙ by (test x)
  where
    by : (b : Bool) → first_some (cond b (Some x) (last_where test ys) ∷ where_true (test y) y ∷ []) ≡ cond b (Some x) (first_some (last_where test ys ∷ where_true (test y) y ∷ []))
    by true = refl
    by false = refl

pub stands_push : (opening : List Object) (earlier : List Admitted) (a : Admitted) (id : ObjectId) → stands opening (earlier ++ a ∷ []) id ≡ cond (writes id a) (Some (standing_after a)) (now_stands opening earlier a.cert id)
stands_push opening earlier a id =
    ap (λ o. first_some (option_map standing_after o ∷ first_of (beginning_by opening id) (map cert_of (earlier ++ a ∷ [])) ∷ [])) (last_push (writes id) earlier a)
    ∙ ap (λ cs. first_some (option_map standing_after (cond (writes id a) (Some a) (last_where (writes id) earlier)) ∷ first_of (beginning_by opening id) cs ∷ [])) (certs earlier)
    ∙ by (writes id a)
  where
    certs : (adm : List Admitted) → map cert_of (adm ++ a ∷ []) ≡ map cert_of adm ++ a.cert ∷ []
    certs [] = refl
    certs (x ∷ xs) = ap (λ cs. x.cert ∷ cs) (certs xs)

    by : (b : Bool) → first_some (option_map standing_after (cond b (Some a) (last_where (writes id) earlier)) ∷ first_of (beginning_by opening id) (map cert_of earlier ++ a.cert ∷ []) ∷ [])
        ≡ cond b (Some (standing_after a)) (now_stands opening earlier a.cert id)
    by true = refl
    by false = now_first opening earlier a.cert id
