-- The tasks of a plan and its edges belong together, and an edge carries what comes of the task that it comes from.
use Rattle.std.proofs.Common.{◌≡◌, ◌≢◌, ℕ, zero, suc, ◌+◌, ◌<◌, ◌≤◌, Bool, true, false, cond, eqb, eq-eqb, ne_eqb, List, [], ◌∷◌, ◌++◌, map, length, get_or, replicate, Option, Some, None, inl, inr, refl, ap, sym, subst, ◌∙◌, append_assoc, append-nil, arith}
use Rattle.std.specs.Prelude.{◌⊎◌, filter, filter_map, option_map, slice_get}
use Rattle.std.proofs.lemmas.List.{length-map}
use Rattle.std.proofs.lemmas.List.Elements.{filter-append}
use Rattle.std.proofs.lemmas.Option.{same_Some, slice_get-map}
use Rattle.std.specs.List.{cons_option}
use Rattle.std.specs.Option.{option_to_list}
use Rattle.digest_core.specs.declared.Digest.{Digest}
use Rattle.chain_types.specs.declared.objects.Object.{Object}
use Rattle.chain_types.specs.declared.objects.Producer.{Producer}
use Rattle.chain_types.specs.declared.objects.Producer.TheVariants as producers
use Rattle.protocol_spec.specs.declared.answers.Held.{Held}
use Rattle.protocol_spec.proofs.ListLemmas.{each_join}
use Rattle.protocol_spec.specs.Chain.Words.{Each}
use Rattle.protocol_spec.specs.Member.Versions.{Version}
use Rattle.protocol_spec.specs.Member.Admission.{Admission}
use Rattle.protocol_spec.specs.Member.Rounds.{Wanted, found, wants_of}
use Rattle.dag_core.specs.declared.plan.Edge.{Edge}
use Rattle.dag_core.specs.Places.{times, places_by}
use Rattle.dag_core.specs.Values.{count_in, count_out, edge_values, outputs, places_from, places_to, source, target, value_of, values_at}
use Rattle.dag_core.proofs.Places.{times_here, times_in}
use Rattle.dag_core.proofs.Fixed.{IsPlan, item_at, length-outputs_after, source_from, task_output, task_value, to_target}
use Rattle.exec_plan.specs.declared.task.Carry.{Carry}
use Rattle.exec_plan.specs.declared.task.Outcome.{Outcome}
use Rattle.exec_plan.specs.declared.task.Outcome.TheVariants as outcomes
use Rattle.exec_plan.specs.declared.task.Want.{Want}
use Rattle.exec_plan.specs.Layers.{is_of}
use Rattle.exec_plan.specs.declared.link.Link.{Link}
use Rattle.exec_plan.specs.Tasks.{Planned, carry_of, count_given, edge_of, gives_of, is_edge, key_of_link, link_as, link_of, links_after, maker_number, number_of, outcome_of, output_of, slot_as, takes_of, task_of, tasks_after, values_of, want_as}

-- ---- numbers of tasks

pub number_below : (tx : Digest) (hs : List Held) (n : ℕ) → number_of tx hs ≡ Some n → n < length hs
number_below tx [] n e = absurd (cc)
number_below tx (h ∷ hs) n e = go (is_of tx h) (number_of tx hs) e (number_below tx hs)
  where
    go : (b : Bool) (o : Option ℕ) → cond b (Some 0) (option_map suc o) ≡ Some n → ((k : ℕ) → o ≡ Some k → k < length hs) → n < suc (length hs)
    go true o e more = let z : 0 ≡ n = same_Some 0 n e in omega (arith, z)
    go false None e more = absurd (cc)
    go false (Some k) e more =
        let z : suc k ≡ n = same_Some (suc k) n e in
        let lt = more k refl in
        omega (arith, z, lt)

maker_below : (front : List Held) (p : Option Producer) (n : ℕ) → maker_number front p ≡ Some n → n < length front
maker_below front None n e = absurd (cc)
maker_below front (Some producers.Opening) n e = absurd (cc)
maker_below front (Some (producers.Tx tx)) n e = number_below tx front n e

-- ---- the links to a task

abbrev pub goes_to : ℕ → Link → Bool
goes_to n l = eqb l.to n

abbrev pub comes_from : ℕ → Link → Bool
comes_from n l = eqb l.from n

-- a link comes from a task before the one that it goes to, and that is below a number
abbrev pub IsForward : ℕ → Link → Type 0
IsForward n l = (l.from < l.to) × (l.to < n)

module _ (vs : List Version) (a : Admission) where
  pub links_join : (front xs ys : List Held) → links_after vs a front (xs ++ ys) ≡ links_after vs a front xs ++ links_after vs a (front ++ xs) ys
  links_join front [] ys = ap (λ f. links_after vs a f ys) (sym (append-nil front))
  links_join front (x ∷ xs) ys =
      ap (λ l. filter_map (link_of vs front) (wants_of a x) ++ l)
      (links_join (front ++ x ∷ []) xs ys ∙ ap (λ f. links_after vs a (front ++ x ∷ []) xs ++ links_after vs a f ys) (append_assoc front (x ∷ []) xs))
      ∙ sym (append_assoc (filter_map (link_of vs front) (wants_of a x)) (links_after vs a (front ++ x ∷ []) xs) (links_after vs a (front ++ x ∷ xs) ys))

  to_here : (front : List Held) (ws : List Wanted) → filter (goes_to (length front)) (filter_map (link_of vs front) ws) ≡ filter_map (link_of vs front) ws
  to_here front [] = refl
  to_here front (w ∷ ws) = go (found vs w) (maker_number front w.producer) (to_here front ws)
    where
      rest : List Link
      rest = filter_map (link_of vs front) ws

      go : (f : Option Object) (m : Option ℕ) → filter (goes_to (length front)) rest ≡ rest
          → filter (goes_to (length front)) (cons_option (link_as (length front) w.key f m) rest) ≡ cons_option (link_as (length front) w.key f m) rest
      go (Some o) m more = more
      go None None more = more
      go None (Some n) more =
          ap (λ b. cond b (record { from = n; to = length front; key = w.key } ∷ filter (goes_to (length front)) rest) (filter (goes_to (length front)) rest)) (eq-eqb (length front) (length front) refl)
          ∙ ap (λ (ls : List Link). record { from = n; to = length front; key = w.key } ∷ ls) more

  to_other : (n : ℕ) (front : List Held) (ws : List Wanted) → length front ≢ n → filter (goes_to n) (filter_map (link_of vs front) ws) ≡ []
  to_other n front [] other = refl
  to_other n front (w ∷ ws) other = go (found vs w) (maker_number front w.producer) (to_other n front ws other)
    where
      rest : List Link
      rest = filter_map (link_of vs front) ws

      go : (f : Option Object) (m : Option ℕ) → filter (goes_to n) rest ≡ [] → filter (goes_to n) (cons_option (link_as (length front) w.key f m) rest) ≡ []
      go (Some o) m more = more
      go None None more = more
      go None (Some k) more = ap (λ b. cond b (record { from = k; to = length front; key = w.key } ∷ filter (goes_to n) rest) (filter (goes_to n) rest)) (ne_eqb (length front) n other) ∙ more

  pub longer_by : (front : List Held) (x : Held) → length (front ++ x ∷ []) ≡ suc (length front)
  longer_by [] x = refl
  longer_by (y ∷ front) x = ap suc (longer_by front x)

  -- no link goes from these certificates to a number that is none of theirs
  none_to : (n : ℕ) (xs front : List Held) → (n < length front) ⊎ (length front + length xs ≤ n) → filter (goes_to n) (links_after vs a front xs) ≡ []
  none_to n [] front out = refl
  none_to n (x ∷ xs) front out =
      filter-append (goes_to n) (filter_map (link_of vs front) (wants_of a x)) (links_after vs a (front ++ x ∷ []) xs)
      ∙ ap (λ l. l ++ filter (goes_to n) (links_after vs a (front ++ x ∷ []) xs)) (to_other n front (wants_of a x) (other out))
      ∙ none_to n xs (front ++ x ∷ []) (next out)
    where
      other : (n < length front) ⊎ (length front + suc (length xs) ≤ n) → length front ≢ n
      other (inl low) e = absurd (omega (arith, low, e))
      other (inr high) e = absurd (omega (arith, high, e))

      next : (n < length front) ⊎ (length front + suc (length xs) ≤ n) → (n < length (front ++ x ∷ [])) ⊎ (length (front ++ x ∷ []) + length xs ≤ n)
      next (inl low) = let l = longer_by front x in inl (omega (arith, low, l))
      next (inr high) = let l = longer_by front x in inr (omega (arith, high, l))

  -- the links to a task are those of its own wants
  pub links_to : (front back : List Held) (h : Held) → filter (goes_to (length front)) (links_after vs a [] (front ++ h ∷ back)) ≡ filter_map (link_of vs front) (wants_of a h)
  links_to front back h =
      ap (filter (goes_to n)) (links_join [] front (h ∷ back))
      ∙ filter-append (goes_to n) (links_after vs a [] front) (links_after vs a front (h ∷ back))
      ∙ ap (λ l. l ++ filter (goes_to n) (links_after vs a front (h ∷ back))) (none_to n front [] (inr (let z : 0 + n ≤ n = omega arith in z)))
      ∙ filter-append (goes_to n) (filter_map (link_of vs front) (wants_of a h)) (links_after vs a (front ++ h ∷ []) back)
      ∙ ap (λ l. filter (goes_to n) (filter_map (link_of vs front) (wants_of a h)) ++ l) (none_to n back (front ++ h ∷ []) (inl (let l = longer_by front h in omega (arith, l))))
      ∙ append-nil (filter (goes_to n) (filter_map (link_of vs front) (wants_of a h)))
      ∙ to_here front (wants_of a h)
    where
      n : ℕ
      n = length front

  pub forward_here : (n : ℕ) (front : List Held) (ws : List Wanted) → length front < n → Each (IsForward n) (filter_map (link_of vs front) ws)
  forward_here n front [] low = tt
  forward_here n front (w ∷ ws) low = go (found vs w) (maker_number front w.producer) refl (forward_here n front ws low)
    where
      rest : List Link
      rest = filter_map (link_of vs front) ws

      go : (f : Option Object) (m : Option ℕ) → maker_number front w.producer ≡ m → Each (IsForward n) rest → Each (IsForward n) (cons_option (link_as (length front) w.key f m) rest)
      go (Some o) m e more = more
      go None None e more = more
      go None (Some k) e more = ((maker_below front w.producer k e, low), more)

  pub links_forward : (n : ℕ) (xs front : List Held) → length front + length xs ≤ n → Each (IsForward n) (links_after vs a front xs)
  links_forward n [] front low = tt
  links_forward n (x ∷ xs) front low =
      each_join (IsForward n) (filter_map (link_of vs front) (wants_of a x)) (links_after vs a (front ++ x ∷ []) xs)
      (forward_here n front (wants_of a x) (omega (arith, low)))
      (links_forward n xs (front ++ x ∷ []) (let l = longer_by front x in omega (arith, l, low)))

  -- ---- the tasks

  -- the task is that of a certificate at this place
  pub record IsTaskAt (links : List Link) (all : List Held) (n : ℕ) (t : Planned) : Type 0 where
    pub front : List Held
    pub of : Held
    pub back : List Held
    pub whole : all ≡ front ++ of ∷ back
    pub number : length front ≡ n
    pub is : t ≡ task_of vs a links front of

  task_from : (links : List Link) (hs front : List Held) (n : ℕ) (t : Planned) → slice_get (tasks_after vs a links front hs) n ≡ Some t → IsTaskAt links (front ++ hs) (length front + n) t
  task_from links [] front n t at = absurd (cc)
  task_from links (h ∷ hs) front zero t at = record {
    front = front;
    of = h;
    back = hs;
    whole = refl;
    number = omega arith;
    is = sym (same_Some (task_of vs a links front h) t at);
  }
  task_from links (h ∷ hs) front (suc n) t at = go (task_from links hs (front ++ h ∷ []) n t at)
    where
      go : IsTaskAt links ((front ++ h ∷ []) ++ hs) (length (front ++ h ∷ []) + n) t → IsTaskAt links (front ++ h ∷ hs) (length front + suc n) t
      go rest = record {
        front = rest.front;
        of = rest.of;
        back = rest.back;
        whole = sym (append_assoc front (h ∷ []) hs) ∙ rest.whole;
        number = let l = longer_by front h in let m = rest.number in omega (arith, l, m);
        is = rest.is;
      }

  pub task_at : (links : List Link) (hs front : List Held) (n : ℕ) (t : Planned) → slice_get (tasks_after vs a links front hs) n ≡ Some t → length front ≡ 0 → IsTaskAt links (front ++ hs) n t
  task_at links hs front n t at none =
      let z : length front + n ≡ n = omega (arith, none) in
      subst (λ k. IsTaskAt links (front ++ hs) k t) z (task_from links hs front n t at)

  pub count_tasks : (links : List Link) (hs front : List Held) → length (tasks_after vs a links front hs) ≡ length hs
  count_tasks links [] front = refl
  count_tasks links (h ∷ hs) front = ap suc (count_tasks links hs (front ++ h ∷ []))

  pub tasks_join : (links : List Link) (front xs ys : List Held) → tasks_after vs a links front (xs ++ ys) ≡ tasks_after vs a links front xs ++ tasks_after vs a links (front ++ xs) ys
  tasks_join links front [] ys = ap (λ f. tasks_after vs a links f ys) (sym (append-nil front))
  tasks_join links front (x ∷ xs) ys =
      ap (λ ts. task_of vs a links front x ∷ ts)
      (tasks_join links (front ++ x ∷ []) xs ys ∙ ap (λ f. tasks_after vs a links (front ++ x ∷ []) xs ++ tasks_after vs a links f ys) (append_assoc front (x ∷ []) xs))

  -- as many edges go to a task as it has slots for them
  takes_links : (front : List Held) (ws : List Wanted) → length (filter (λ (w : Want). is_edge w.slot) (map (want_as vs front) ws)) ≡ length (filter_map (link_of vs front) ws)
  takes_links front [] = refl
  takes_links front (w ∷ ws) = go (found vs w) (maker_number front w.producer) (takes_links front ws)
    where
      rest : List Want
      rest = filter (λ (w : Want). is_edge w.slot) (map (want_as vs front) ws)

      go : (f : Option Object) (m : Option ℕ) → length rest ≡ length (filter_map (link_of vs front) ws)
          → length (cond (is_edge (slot_as f m)) (want_as vs front w ∷ rest) rest) ≡ length (cons_option (link_as (length front) w.key f m) (filter_map (link_of vs front) ws))
      go (Some o) m more = more
      go None None more = more
      go None (Some n) more = ap suc more

-- ---- links and the places of their edges

abbrev no_link : Link
no_link = record { from = 0; to = 0; key = record { id = record { 0 = record { 0 = [] } }; version = 0 } }

abbrev pub link_at : List Link → ℕ → Link
link_at links place = get_or links place no_link

edge_is : (links : List Link) (place : ℕ) → get_or (map edge_of links) place (record { from = 0; to = 0 }) ≡ edge_of (link_at links place)
edge_is [] place = refl
edge_is (l ∷ ls) zero = refl
edge_is (l ∷ ls) (suc n) = edge_is ls n

-- what is said of the links that pass is said of the places of their edges
module _ {B : Type 0} (pass : Link → Bool) (passes : Edge → Bool) (same : (l : Link) → passes (edge_of l) ≡ pass l) (says : Link → B) where
  by_places : (links : List Link) (first : ℕ) (at : ℕ → B) → ((i : ℕ) → i < length links → at (first + i) ≡ says (get_or links i no_link))
      → map says (filter pass links) ≡ map at (places_by passes first (map edge_of links))
  by_places [] first at agree = refl
  by_places (l ∷ ls) first at agree = go (pass l) (passes (edge_of l)) (same l) (by_places ls (first + 1) at next)
    where
      next : (i : ℕ) → i < length ls → at (first + 1 + i) ≡ says (get_or ls i no_link)
      next i lt =
          let z : first + suc i ≡ first + 1 + i = omega arith in
          subst (λ n. at n ≡ says (get_or ls i no_link)) z (agree (suc i) (omega (arith, lt)))

      here : says l ≡ at first
      here =
          let z : first + 0 ≡ first = omega arith in
          sym (subst (λ n. at n ≡ says l) z (agree 0 (omega arith)))

      go : (b c : Bool) → c ≡ b → map says (filter pass ls) ≡ map at (places_by passes (first + 1) (map edge_of ls))
          → map says (cond b (l ∷ filter pass ls) (filter pass ls)) ≡ map at (cond c (first ∷ places_by passes (first + 1) (map edge_of ls)) (places_by passes (first + 1) (map edge_of ls)))
      go true true e more = ap (λ x. x ∷ map says (filter pass ls)) here ∙ ap (λ l. at first ∷ l) more
      go false false e more = more
      go true false e more = absurd (cc)
      go false true e more = absurd (cc)

  pub at_places : (links : List Link) → map says (filter pass links) ≡ map (λ p. says (link_at links p)) (places_by passes 0 (map edge_of links))
  at_places links = by_places links 0 (λ p. says (link_at links p)) (λ i lt. let z : 0 + i ≡ i = omega arith in ap (λ n. says (link_at links n)) z)

each_at : {A : Type 0} (P : A → Type 0) (xs : List A) (place : ℕ) (d : A) → Each P xs → place < length xs → P (get_or xs place d)
each_at P [] place d each lt = absurd (omega (arith, lt))
each_at P (x ∷ xs) zero d each lt = each.0
each_at P (x ∷ xs) (suc n) d each lt = each_at P xs n d each.1 (omega (arith, lt))

get_map : {A B : Type 0} (f : A → B) (xs : List A) (n : ℕ) (d : A) → n < length xs → slice_get (map f xs) n ≡ Some (f (get_or xs n d))
get_map f [] n d lt = absurd (omega (arith, lt))
get_map f (x ∷ xs) zero d lt = refl
get_map f (x ∷ xs) (suc n) d lt = get_map f xs n d (omega (arith, lt))

-- lists of one length are the same if each item of the one stands in the other
pub same_lists : {A : Type 0} (xs ys : List A) → length xs ≡ length ys → ((n : ℕ) (y : A) → slice_get ys n ≡ Some y → slice_get xs n ≡ Some y) → xs ≡ ys
same_lists [] [] counted same = refl
same_lists [] (y ∷ ys) counted same = absurd (cc)
same_lists (x ∷ xs) [] counted same = absurd (cc)
same_lists (x ∷ xs) (y ∷ ys) counted same =
    ap (λ z. z ∷ xs) (same_Some x y (same 0 y refl))
    ∙ ap (λ zs. y ∷ zs) (same_lists xs ys (omega (arith, counted)) (λ n z at. same (suc n) z at))

module _ {V : Type 0} (known : List (Option V)) (says : ℕ → V) where
  values_are : (ps : List ℕ) → ((e : ℕ) → 0 < times e ps → value_of known e ≡ Some (says e)) → values_at known ps ≡ map says ps
  values_are [] each = refl
  values_are (p ∷ ps) each =
      let h = times_here p p ps refl in
      ap (λ (o : Option V). option_to_list o ++ values_at known ps) (each p (omega (arith, h)))
      ∙ ap (λ vs. says p ∷ vs) (values_are ps (λ e t. each e (omega (arith, t))))

-- ---- a plan of tasks

module _ (vs : List Version) (a : Admission) (all : List Held) where
  abbrev pub links : List Link
  links = links_after vs a [] all

  abbrev pub edges : List Edge
  edges = map edge_of links

  abbrev pub tasks : List Planned
  tasks = tasks_after vs a links [] all

  source_is : (place : ℕ) → source edges place ≡ (link_at links place).from
  source_is place = ap (λ (e : Edge). e.from) (edge_is links place)

  target_is : (place : ℕ) → target edges place ≡ (link_at links place).to
  target_is place = ap (λ (e : Edge). e.to) (edge_is links place)

  counted : length tasks ≡ length all
  counted = count_tasks vs a links all []

  gives_are : (n : ℕ) → gives_of links n ≡ map (λ p. (link_at links p).key) (places_from edges n)
  gives_are n = at_places (comes_from n) (λ (e : Edge). eqb e.from n) (λ l. refl) key_of_link links

  in_count : (n : ℕ) → length (filter (goes_to n) links) ≡ count_in edges n
  in_count n =
      sym (length-map (filter (goes_to n) links) (λ (l : Link). l))
      ∙ ap (λ (ls : List Link). length ls) (at_places (goes_to n) (λ (e : Edge). eqb e.to n) (λ l. refl) (λ (l : Link). l) links)
      ∙ length-map (places_to edges n) (λ p. link_at links p)

  at : (n : ℕ) (t : Planned) → slice_get tasks n ≡ Some t → IsTaskAt vs a links all n t
  at n t e = task_at vs a links all [] n t e refl

  pub task_plan : IsPlan takes_of count_given values_of edges tasks
  task_plan = record {
    forward = forward;
    takes_in = λ n t e. taking n t (at n t e);
    gives_out = λ n t e. giving n t (at n t e);
    sized = λ t inputs e. length-map t.gives (carry_of (outcome_of t inputs));
  }
    where
      forward : (place : ℕ) → place < length edges → (source edges place < target edges place) × (target edges place < length tasks)
      forward place lt =
          let n = length-map links edge_of in
          let f : IsForward (length all) (link_at links place) = each_at (IsForward (length all)) links place no_link (links_forward vs a (length all) all [] (omega arith)) (omega (arith, lt, n)) in
          let s = source_is place in
          let t = target_is place in
          let c = counted in
          let f0 = f.0 in
          let f1 = f.1 in
          (omega (arith, f0, s, t), omega (arith, f1, t, c))

      taking : (n : ℕ) (t : Planned) → IsTaskAt vs a links all n t → takes_of t ≡ count_in edges n
      taking n t of =
          ap takes_of of.is
          ∙ takes_links vs a of.front (wants_of a of.of)
          ∙ ap length (sym (links_to vs a of.front of.back of.of))
          ∙ ap (λ (hs : List Held). length (filter (goes_to (length of.front)) (links_after vs a [] hs))) (sym of.whole)
          ∙ ap (λ k. length (filter (goes_to k) links)) of.number
          ∙ in_count n

      giving : (n : ℕ) (t : Planned) → IsTaskAt vs a links all n t → count_given t ≡ count_out edges n
      giving n t of =
          ap count_given of.is
          ∙ ap (λ k. length (gives_of links k)) of.number
          ∙ ap length (gives_are n)
          ∙ length-map (places_from edges n) (λ p. (link_at links p).key)

  abbrev pub values : List (Option Carry)
  values = edge_values output_of values_of edges tasks

  abbrev pub inputs_at : ℕ → List Carry
  inputs_at n = values_at values (places_to edges n)

  -- what comes of the task with this number
  abbrev pub outcome_in : ℕ → Option Planned → Outcome
  outcome_in n None = outcomes.Unfit
  outcome_in n (Some t) = outcome_of t (inputs_at n)

  abbrev pub outcome_at : ℕ → Outcome
  outcome_at n = outcome_in n (slice_get tasks n)

  -- what a link carries
  abbrev pub carry_on : Link → Carry
  carry_on l = carry_of (outcome_at l.from) l.key

  value_is : (place : ℕ) → place < length edges → value_of values place ≡ Some (carry_on (link_at links place))
  value_is place lt =
      let f = task_plan.forward place lt in
      let u = source edges place in
      let it = item_at tasks u (omega (arith, f)) in
      let t = it.0 in
      let one = source_from edges place lt in
      let m = times_in place (places_from edges u) (omega (arith, one)) in
      let of = at u t it.1 in
      let gives : t.gives ≡ map (λ p. (link_at links p).key) (places_from edges u) = ap (λ (x : Planned). x.gives) of.is ∙ ap (gives_of links) of.number ∙ gives_are u in
      let got : slice_get (values_of t (inputs_at u)) m.0 ≡ Some (carry_of (outcome_of t (inputs_at u)) (link_at links place).key) =
      slice_get-map (carry_of (outcome_of t (inputs_at u))) t.gives m.0
      ∙ ap (option_map (carry_of (outcome_of t (inputs_at u))))
      (ap (λ ks. slice_get ks m.0) gives ∙ get_map (λ p. (link_at links p).key) (places_from edges u) m.0 0 m.1 ∙ ap (λ p. Some (link_at links p).key) m.2) in
      ap (value_of values) (sym m.2)
      ∙ task_value output_of values_of takes_of count_given edges tasks task_plan u t it.1 m.0 (carry_of (outcome_of t (inputs_at u)) (link_at links place).key) m.1 got
      ∙ ap (λ (o : Outcome). Some (carry_of o (link_at links place).key)) (ap (outcome_in u) (sym it.1) ∙ ap outcome_at (source_is place))

  -- the inputs of a task are what its links carry
  pub inputs_are : (front back : List Held) (h : Held) → all ≡ front ++ h ∷ back → inputs_at (length front) ≡ map carry_on (filter_map (link_of vs front) (wants_of a h))
  inputs_are front back h whole =
      values_are values (λ p. carry_on (link_at links p)) (places_to edges (length front)) (λ e there. value_is e (to_target edges (length front) e there).0)
      ∙ sym (at_places (goes_to (length front)) (λ (e : Edge). eqb e.to (length front)) (λ l. refl) carry_on links)
      ∙ ap (map carry_on) (ap (λ (hs : List Held). filter (goes_to (length front)) (links_after vs a [] hs)) whole ∙ links_to vs a front back h)

  -- ---- the outputs

  -- the outputs of these tasks, of which the first has this number
  abbrev pub outs_after : ℕ → List Planned → List (Digest × Outcome)
  outs_after n [] = []
  outs_after n (t ∷ ts) = (t.digest, outcome_of t (inputs_at n)) ∷ outs_after (n + 1) ts

  count_outs : (n : ℕ) (ts : List Planned) → length (outs_after n ts) ≡ length ts
  count_outs n [] = refl
  count_outs n (t ∷ ts) = ap suc (count_outs (n + 1) ts)

  out_at : (ts : List Planned) (n k : ℕ) (o : Digest × Outcome) → slice_get (outs_after n ts) k ≡ Some o → (t : Planned) × (slice_get ts k ≡ Some t) × (o ≡ output_of t (inputs_at (n + k)))
  out_at [] n k o e = absurd (cc)
  out_at (t ∷ ts) n zero o e =
      let z : n ≡ n + 0 = omega arith in
      (t, refl, sym (same_Some (output_of t (inputs_at n)) o e) ∙ ap (λ m. output_of t (inputs_at m)) z)
  out_at (t ∷ ts) n (suc k) o e =
      let rest = out_at ts (n + 1) k o e in
      let z : n + 1 + k ≡ n + suc k = omega arith in
      (rest.0, rest.1, rest.2 ∙ ap (λ m. output_of rest.0 (inputs_at m)) z)

  pub outs_are : outputs output_of values_of edges tasks ≡ outs_after 0 tasks
  outs_are =
      same_lists (outputs output_of values_of edges tasks) (outs_after 0 tasks)
      (length-outputs_after output_of values_of edges (replicate (length edges) None) 0 tasks ∙ sym (count_outs 0 tasks))
      (λ k o e.
      let from = out_at tasks 0 k o e in
      let z : 0 + k ≡ k = omega arith in
      task_output output_of values_of takes_of count_given edges tasks task_plan k from.0 from.1 ∙ ap Some (sym (from.2 ∙ ap (λ m. output_of from.0 (inputs_at m)) z)))
