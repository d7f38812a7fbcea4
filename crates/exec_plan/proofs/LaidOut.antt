-- The tasks and edges that are laid out certificate by certificate are those of the plan.
use Rattle.std.proofs.Common.{◌≡◌, ◌≢◌, ℕ, zero, suc, ◌+◌, ◌-◌, ◌<◌, ◌≤◌, Bool, true, false, cond, eq-eqb, ne_eqb, not, ltb, ◌&&◌, ◌||◌, List, [], ◌∷◌, ◌++◌, map, length, get_or, take, drop, Option, Some, None, refl, ap, sym, subst, ◌∙◌, append_assoc, append-nil, arith}
use Rattle.std.specs.Prelude.{filter, filter_map, option_map, position, slice_get, slice_index}
use Rattle.std.specs.Option.{option_to_list}
use Rattle.std.specs.List.{cons_option, list_any, position_from}
use Rattle.std.proofs.lemmas.List.Elements.{filter-append}
use Rattle.std.proofs.lemmas.Iterator.Adapters.{position_from-zero}
use Rattle.std.proofs.lemmas.List.{length-map}
use Rattle.std.proofs.lemmas.List.Quantifiers.{position-Some}
use Rattle.std.proofs.lemmas.Bool.Decides.{nat_tests}
use Rattle.indexmap.specs.IndexSet.{insert_key}
use Rattle.digest_core.specs.declared.Digest.{Digest}
use Rattle.chain_types.specs.declared.objects.ObjectKey.{ObjectKey}
use Rattle.chain_types.specs.declared.objects.Producer.{Producer}
use Rattle.chain_types.specs.declared.objects.Producer.TheVariants as producers
use Rattle.protocol_spec.specs.declared.answers.Held.{Held}
use Rattle.chain_types.specs.Equal.{digest_eq}
use Rattle.protocol_spec.proofs.Equality.{digest_same, test_turned, digest_self}
use Rattle.protocol_spec.proofs.ListLemmas.{tail_is}
use Rattle.protocol_spec.specs.Chain.Words.{Along, Each}
use Rattle.protocol_spec.specs.Member.Versions.{Version}
use Rattle.protocol_spec.specs.Member.Admission.{Admission}
use Rattle.protocol_spec.specs.Member.Rounds.{Wanted, found, wants_of}
use Rattle.dag_core.specs.declared.plan.Edge.{Edge}
use Rattle.dag_core.specs.Values.{count_in, count_out, first_bad, is_forward, source, target}
use Rattle.dag_core.proofs.Fixed.{IsPlan}
use Rattle.exec_plan.specs.declared.link.Link.{Link}
use Rattle.exec_plan.specs.declared.task.Want.{Want}
use Rattle.version_store.specs.Stores.{Stored, held_in}
use Rattle.exec_plan.specs.Books.{AreApart, books_of, digest_of_held}
use Rattle.exec_plan.specs.Drafts.{Drafted, IsDraft, all_given, bare_task, drafted_after, drafted_at, drafted_with, given, given_at, link_in, nothing_drafted, number_in, picked, want_in}
use Rattle.exec_plan.specs.Layers.{is_of, is_planned, planned_of}
use Rattle.exec_plan.specs.Tasks.{Planned, count_given, edge_of, edges_of, gives_of, key_of_link, link_as, link_of, links_after, links_of, maker_number, number_of, origin_of, slot_as, takes_of, task_of, tasks_after, tasks_of, values_of, want_as}
use Rattle.exec_plan.proofs.Layering.{Joins, planned_along}
use Rattle.exec_plan.proofs.Linking.{IsForward, comes_from, forward_here, links_forward, links_join, longer_by, task_plan, tasks_join}

-- one more certificate, by what each call leaves
pub drafted_of : (vs : List Version) (ws : List Wanted) (d : Drafted) (h : Held) (before keys : List Digest) (old mid tasks : List Planned) (task : Planned) (start edges : List Edge) (wants : List Want) (links : List Link)
    → record { keys = before; tasks = old; edges = start } ≡ d → wants ≡ map (want_in vs before) ws → links ≡ filter_map (link_in vs before) ws → mid ≡ all_given old links
    → edges ≡ start ++ map edge_of links → task ≡ bare_task h wants → tasks ≡ mid ++ task ∷ [] → keys ≡ insert_key digest_eq before h.digest
    → record { keys = keys; tasks = tasks; edges = edges } ≡ drafted_with vs ws d h
drafted_of vs ws d h before keys old mid tasks task start edges wants links is wanted linked gave edged bare pushed inserted =
    ap (λ ks. draft ks tasks edges) inserted
    ∙ ap (λ ts. draft (insert_key digest_eq before h.digest) ts edges)
    (pushed ∙ ap (λ m. m ++ task ∷ []) (gave ∙ ap (all_given old) linked)
    ∙ ap (λ (t : Planned). all_given old (filter_map (link_in vs before) ws) ++ t ∷ []) (bare ∙ ap (bare_task h) wanted))
    ∙ ap (draft (insert_key digest_eq before h.digest) (all_given old (filter_map (link_in vs before) ws) ++ bare_task h (map (want_in vs before) ws) ∷ []))
    (edged ∙ ap (λ ls. start ++ map edge_of ls) linked)
    ∙ ap (λ (x : Drafted). drafted_with vs ws x h) is
  where
    draft : List Digest → List Planned → List Edge → Drafted
    draft ks ts es = record { keys = ks; tasks = ts; edges = es }

-- ---- loops

-- one item more is mapped, the first of those that are left
pub front_mapped : {A B : Type 0} (f : A → B) (done new : List B) (left rest : List A) (x : A) {all : List B} → left ≡ x ∷ rest → new ≡ done ++ f x ∷ [] → done ++ map f left ≡ all → new ++ map f rest ≡ all
front_mapped f done new left rest x first more whole =
    ap (λ l. l ++ map f rest) more
    ∙ append_assoc done (f x ∷ []) (map f rest)
    ∙ sym (ap (λ l. done ++ map f l) first)
    ∙ whole

-- one item more is taken, the first of those that are left, if an item may give nothing
pub front_picked : {A B : Type 0} (f : A → Option B) (done new : List B) (left rest : List A) (x : A) {all : List B} → left ≡ x ∷ rest → new ≡ done ++ option_to_list (f x) → done ++ filter_map f left ≡ all
    → new ++ filter_map f rest ≡ all
front_picked {B = B} f done new left rest x first more whole =
    ap (λ l. l ++ filter_map f rest) more
    ∙ append_assoc done (option_to_list (f x)) (filter_map f rest)
    ∙ ap (λ l. done ++ l) (one (f x))
    ∙ sym (ap (λ l. done ++ filter_map f l) first)
    ∙ whole
  where
    one : (o : Option B) → option_to_list o ++ filter_map f rest ≡ cons_option o (filter_map f rest)
    one None = refl
    one (Some z) = refl

-- ---- numbers by transactions

position_is : {A : Type 0} (test : A → Bool) (xs : List A) → position test xs ≡ position_from test 0 xs
position_is test xs = position_from-zero test xs

-- places counted from a number on
counted_from : {A : Type 0} (test : A → Bool) (xs : List A) (n : ℕ) → position_from test n xs ≡ option_map (λ k. n + k) (position_from test 0 xs)
counted_from test [] n = refl
counted_from test (x ∷ xs) n = go (test x) (counted_from test xs (n + 1)) (counted_from test xs (0 + 1))
  where
    go : (b : Bool) → position_from test (n + 1) xs ≡ option_map (λ k. n + 1 + k) (position_from test 0 xs) → position_from test (0 + 1) xs ≡ option_map (λ k. 0 + 1 + k) (position_from test 0 xs)
        → cond b (Some n) (position_from test (n + 1) xs) ≡ option_map (λ k. n + k) (cond b (Some 0) (position_from test (0 + 1) xs))
    go true p q = let z : n ≡ n + 0 = omega arith in ap Some z
    go false p q = p ∙ sums (position_from test 0 xs) ∙ sym (ap (option_map (λ k. n + k)) q)
      where
        sums : (o : Option ℕ) → option_map (λ k. n + 1 + k) o ≡ option_map (λ k. n + k) (option_map (λ k. 0 + 1 + k) o)
        sums None = refl
        sums (Some k) = let z : n + 1 + k ≡ n + (0 + 1 + k) = omega arith in ap Some z

numbered : (tx : Digest) (front : List Held) → position_from (digest_eq tx) 0 (map digest_of_held front) ≡ number_of tx front
numbered tx [] = refl
numbered tx (h ∷ hs) =
    ap (λ b. cond b (Some 0) (position_from (digest_eq tx) (0 + 1) (map digest_of_held hs))) (test_turned digest_eq digest_same digest_self tx h.digest)
    ∙ ap (λ (o : Option ℕ). cond (is_of tx h) (Some 0) o) (counted_from (digest_eq tx) (map digest_of_held hs) (0 + 1) ∙ ones (position_from (digest_eq tx) 0 (map digest_of_held hs)) ∙ ap (option_map suc) (numbered tx hs))
  where
    ones : (o : Option ℕ) → option_map (λ k. 0 + 1 + k) o ≡ option_map suc o
    ones None = refl
    ones (Some k) = let z : 0 + 1 + k ≡ suc k = omega arith in ap Some z

number_is : (front : List Held) (p : Option Producer) → number_in (map digest_of_held front) p ≡ maker_number front p
number_is front None = refl
number_is front (Some producers.Opening) = refl
number_is front (Some (producers.Tx tx)) = position_is (digest_eq tx) (map digest_of_held front) ∙ numbered tx front

module _ (vs : List Version) (front : List Held) where
  wants_are : (ws : List Wanted) → map (want_in vs (map digest_of_held front)) ws ≡ map (want_as vs front) ws
  wants_are [] = refl
  wants_are (w ∷ ws) =
      ap (λ n. want_from n ∷ map (want_in vs (map digest_of_held front)) ws) (number_is front w.producer)
      ∙ ap (λ l. want_as vs front w ∷ l) (wants_are ws)
    where
      want_from : Option ℕ → Want
      want_from n = record { key = w.key; origin = origin_of w.producer; slot = slot_as (found vs w) n }

  links_are : (ws : List Wanted) → filter_map (link_in vs (map digest_of_held front)) ws ≡ filter_map (link_of vs front) ws
  links_are [] = refl
  links_are (w ∷ ws) =
      ap (λ n. cons_option (link_as (length (map digest_of_held front)) w.key (found vs w) n) (filter_map (link_in vs (map digest_of_held front)) ws)) (number_is front w.producer)
      ∙ ap (λ n. cons_option (link_as n w.key (found vs w) (maker_number front w.producer)) (filter_map (link_in vs (map digest_of_held front)) ws)) (length-map front digest_of_held)
      ∙ ap (cons_option (link_of vs front w)) (links_are ws)

-- ---- what tasks hand on

module _ (vs : List Version) (a : Admission) where
  -- if no link comes from a task, it hands on nothing more
  gives_same : (links : List Link) (l : Link) (n : ℕ) → l.from ≢ n → gives_of (links ++ l ∷ []) n ≡ gives_of links n
  gives_same links l n other =
      ap (map key_of_link) (filter-append (comes_from n) links (l ∷ []) ∙ ap (λ b. filter (comes_from n) links ++ cond b (l ∷ []) []) (ne_eqb l.from n other) ∙ append-nil (filter (comes_from n) links))

  gives_more : (links : List Link) (l : Link) (n : ℕ) → l.from ≡ n → gives_of links n ++ l.key ∷ [] ≡ gives_of (links ++ l ∷ []) n
  gives_more links l n is = sym (
      ap (map key_of_link) (filter-append (comes_from n) links (l ∷ []) ∙ ap (λ b. filter (comes_from n) links ++ cond b (l ∷ []) []) (eq-eqb l.from n is))
      ∙ joined (filter (comes_from n) links)
      )
    where
      joined : (ls : List Link) → map key_of_link (ls ++ l ∷ []) ≡ map key_of_link ls ++ l.key ∷ []
      joined [] = refl
      joined (k ∷ ks) = ap (λ xs. k.key ∷ xs) (joined ks)

  -- tasks after the one that a link comes from stay
  later_same : (links : List Link) (l : Link) (hs front : List Held) → l.from < length front → tasks_after vs a links front hs ≡ tasks_after vs a (links ++ l ∷ []) front hs
  later_same links l [] front low = refl
  later_same links l (h ∷ hs) front low =
      ap (λ g. with_keys g ∷ tasks_after vs a links (front ++ h ∷ []) hs) (sym (gives_same links l (length front) (λ e. absurd (omega (arith, low, e)))))
      ∙ ap (λ ts. task_of vs a (links ++ l ∷ []) front h ∷ ts) (later_same links l hs (front ++ h ∷ []) (let z = longer_by vs a front h in omega (arith, low, z)))
    where
      with_keys : List ObjectKey → Planned
      with_keys g = record { digest = h.digest; tx = h.cert.tx; wants = map (want_as vs front) (wants_of a h); gives = g }

  -- the task that a link comes from hands on its key
  give_at : (links : List Link) (l : Link) (hs front : List Held) (k : ℕ) → l.from ≡ length front + k
      → given_at (tasks_after vs a links front hs) k l.key (slice_get (tasks_after vs a links front hs) k) ≡ tasks_after vs a (links ++ l ∷ []) front hs
  give_at links l [] front k is = refl
  give_at links l (h ∷ hs) front zero is =
      ap (λ g. with_keys g ∷ tasks_after vs a links (front ++ h ∷ []) hs) (gives_more links l (length front) (omega (arith, is)))
      ∙ ap (λ ts. task_of vs a (links ++ l ∷ []) front h ∷ ts) (later_same links l hs (front ++ h ∷ []) (let z = longer_by vs a front h in omega (arith, is, z)))
    where
      with_keys : List ObjectKey → Planned
      with_keys g = record { digest = h.digest; tx = h.cert.tx; wants = map (want_as vs front) (wants_of a h); gives = g }
  give_at links l (h ∷ hs) front (suc k) is =
      behind (slice_get (tasks_after vs a links (front ++ h ∷ []) hs) k)
      ∙ ap (λ g. with_keys g ∷ given_at (tasks_after vs a links (front ++ h ∷ []) hs) k l.key (slice_get (tasks_after vs a links (front ++ h ∷ []) hs) k)) (sym (gives_same links l (length front) (λ e. absurd (omega (arith, is, e)))))
      ∙ ap (λ ts. task_of vs a (links ++ l ∷ []) front h ∷ ts) (give_at links l hs (front ++ h ∷ []) k (let z = longer_by vs a front h in omega (arith, is, z)))
    where
      with_keys : List ObjectKey → Planned
      with_keys g = record { digest = h.digest; tx = h.cert.tx; wants = map (want_as vs front) (wants_of a h); gives = g }

      behind : (o : Option Planned) → given_at (task_of vs a links front h ∷ tasks_after vs a links (front ++ h ∷ []) hs) (suc k) l.key o
          ≡ task_of vs a links front h ∷ given_at (tasks_after vs a links (front ++ h ∷ []) hs) k l.key o
      behind None = refl
      behind (Some t) = refl

  give_one : (links : List Link) (l : Link) (hs : List Held) → given (tasks_after vs a links [] hs) l ≡ tasks_after vs a (links ++ l ∷ []) [] hs
  give_one links l hs = let z : l.from ≡ 0 + l.from = omega arith in give_at links l hs [] l.from z

  give_more : (ls links : List Link) (hs : List Held) → all_given (tasks_after vs a links [] hs) ls ≡ tasks_after vs a (links ++ ls) [] hs
  give_more [] links hs = ap (λ k. tasks_after vs a k [] hs) (sym (append-nil links))
  give_more (l ∷ ls) links hs =
      ap (λ ts. all_given ts ls) (give_one links l hs)
      ∙ give_more ls (links ++ l ∷ []) hs
      ∙ ap (λ k. tasks_after vs a k [] hs) (append_assoc links (l ∷ []) ls)

  -- no link comes from the last task
  gives_none : (links : List Link) (n : ℕ) → Each (λ (l : Link). l.from < n) links → gives_of links n ≡ []
  gives_none [] n each = refl
  gives_none (l ∷ ls) n each =
      ap (λ b. map key_of_link (cond b (l ∷ filter (comes_from n) ls) (filter (comes_from n) ls))) (ne_eqb l.from n (λ e. absurd (let q = each.0 in omega (arith, e, q))))
      ∙ gives_none ls n each.1

  -- ---- the draft of a list of certificates

  abbrev draft_of : List Held → Drafted
  draft_of front = record {
    keys = map digest_of_held front;
    tasks = tasks_after vs a (links_after vs a [] front) [] front;
    edges = map edge_of (links_after vs a [] front);
  }

  low_of : (n : ℕ) (links : List Link) → Each (IsForward n) links → Each (λ (l : Link). l.from < n) links
  low_of n [] each = tt
  low_of n (l ∷ ls) each = (let p = each.0.0 in let q = each.0.1 in omega (arith, p, q), low_of n ls each.1)

  below : (n : ℕ) (front : List Held) (ws : List Wanted) → length front ≡ n → Each (λ (l : Link). l.from < n) (filter_map (link_of vs front) ws)
  below n front ws is = weaker (filter_map (link_of vs front) ws) (forward_here vs a (n + 1) front ws (omega (arith, is)))
    where
      weaker : (ls : List Link) → Each (IsForward (n + 1)) ls → Each (λ (l : Link). l.from < n) ls
      weaker [] each = tt
      weaker (l ∷ ls) each = (let p = each.0.0 in let q = each.0.1 in omega (arith, p, q), weaker ls each.1)

  each_both : {A : Type 0} (P : A → Type 0) (xs ys : List A) → Each P xs → Each P ys → Each P (xs ++ ys)
  each_both P [] ys p q = q
  each_both P (x ∷ xs) ys p q = (p.0, each_both P xs ys p.1 q)

  map_join : {A B : Type 0} (f : A → B) (xs ys : List A) → map f (xs ++ ys) ≡ map f xs ++ map f ys
  map_join f [] ys = refl
  map_join f (x ∷ xs) ys = ap (λ l. f x ∷ l) (map_join f xs ys)

  absent : (front : List Held) (tx : Digest) → is_planned front tx ≡ false → list_any (digest_eq tx) (map digest_of_held front) ≡ false
  absent [] tx out = refl
  absent (h ∷ hs) tx out =
      ap (λ c. c || list_any (digest_eq tx) (map digest_of_held hs)) (test_turned digest_eq digest_same digest_self tx h.digest)
      ∙ go (is_of tx h) out (absent hs tx)
    where
      go : (b : Bool) → (b || is_planned hs tx) ≡ false → (is_planned hs tx ≡ false → list_any (digest_eq tx) (map digest_of_held hs) ≡ false) → (b || list_any (digest_eq tx) (map digest_of_held hs)) ≡ false
      go true out more = absurd (cc)
      go false out more = more out

  draft_more : (front : List Held) (h : Held) → is_planned front h.digest ≡ false → drafted_with vs (wants_of a h) (draft_of front) h ≡ draft_of (front ++ h ∷ [])
  draft_more front h out =
      ap (λ ks. draft ks tasks edges) keyed
      ∙ ap (λ ts. draft (map digest_of_held (front ++ h ∷ [])) ts edges) tasked
      ∙ ap (draft (map digest_of_held (front ++ h ∷ [])) (tasks_after vs a (links_after vs a [] (front ++ h ∷ [])) [] (front ++ h ∷ []))) edged
    where
      draft : List Digest → List Planned → List Edge → Drafted
      draft ks ts es = record { keys = ks; tasks = ts; edges = es }

      old : List Link
      old = links_after vs a [] front

      new : List Link
      new = filter_map (link_of vs front) (wants_of a h)

      tasks : List Planned
      tasks = all_given (tasks_after vs a old [] front) (filter_map (link_in vs (map digest_of_held front)) (wants_of a h)) ++ bare_task h (map (want_in vs (map digest_of_held front)) (wants_of a h)) ∷ []

      edges : List Edge
      edges = map edge_of old ++ map edge_of (filter_map (link_in vs (map digest_of_held front)) (wants_of a h))

      keyed : insert_key digest_eq (map digest_of_held front) h.digest ≡ map digest_of_held (front ++ h ∷ [])
      keyed =
          ap (λ c. cond c (map digest_of_held front) (map digest_of_held front ++ h.digest ∷ [])) (absent front h.digest out)
          ∙ sym (map_join digest_of_held front (h ∷ []))

      links : links_after vs a [] (front ++ h ∷ []) ≡ old ++ new
      links = links_join vs a [] front (h ∷ []) ∙ ap (λ l. old ++ l) (append-nil new)

      edged : edges ≡ map edge_of (links_after vs a [] (front ++ h ∷ []))
      edged =
          ap (λ l. map edge_of old ++ map edge_of l) (links_are vs front (wants_of a h))
          ∙ sym (map_join edge_of old new)
          ∙ ap (map edge_of) (sym links)

      low : Each (λ (l : Link). l.from < length front) (old ++ new)
      low =
          each_both (λ (l : Link). l.from < length front) old new
          (low_of (length front) old (links_forward vs a (length front) front [] (omega arith)))
          (below (length front) front (wants_of a h) refl)

      bare : bare_task h (map (want_in vs (map digest_of_held front)) (wants_of a h)) ≡ task_of vs a (old ++ new) front h
      bare =
          ap (bare_task h) (wants_are vs front (wants_of a h))
          ∙ ap with_keys (sym (gives_none (old ++ new) (length front) low))
        where
          with_keys : List ObjectKey → Planned
          with_keys g = record { digest = h.digest; tx = h.cert.tx; wants = map (want_as vs front) (wants_of a h); gives = g }

      tasked : tasks ≡ tasks_after vs a (links_after vs a [] (front ++ h ∷ [])) [] (front ++ h ∷ [])
      tasked =
          ap (λ l. all_given (tasks_after vs a old [] front) l ++ bare_task h (map (want_in vs (map digest_of_held front)) (wants_of a h)) ∷ []) (links_are vs front (wants_of a h))
          ∙ ap (λ ts. ts ++ bare_task h (map (want_in vs (map digest_of_held front)) (wants_of a h)) ∷ []) (give_more new old front)
          ∙ ap (λ (t : Planned). tasks_after vs a (old ++ new) [] front ++ t ∷ []) bare
          ∙ sym (tasks_join vs a (old ++ new) [] front (h ∷ []))
          ∙ ap (λ l. tasks_after vs a l [] (front ++ h ∷ [])) (sym links)

  abbrev AreNew : List Held → List Held → Type 0
  AreNew front hs = Along (λ f (h : Held). is_planned f h.digest ≡ false) front hs

  draft_all : (hs front : List Held) → AreNew front hs → drafted_after vs a (draft_of front) hs ≡ draft_of (front ++ hs)
  draft_all [] front new = ap draft_of (sym (append-nil front))
  draft_all (h ∷ hs) front new =
      ap (λ d. drafted_after vs a d hs) (draft_more front h new.0)
      ∙ draft_all hs (front ++ h ∷ []) new.1
      ∙ ap draft_of (append_assoc front (h ∷ []) hs)

  -- the draft of certificates of different transactions
  pub draft_is : (hs : List Held) → AreNew [] hs → drafted_after vs a nothing_drafted hs ≡ draft_of hs
  draft_is hs new = draft_all hs [] new

-- ---- the loop over places

pub front_drafted : (vs : List Version) (a : Admission) (held : List Held) (old new : Drafted) (rest : List ℕ) {all : Drafted} → 1 ≤ length rest → new ≡ drafted_at vs a old (slice_get held (slice_index rest 0))
    → drafted_after vs a old (picked held rest) ≡ all → drafted_after vs a new (picked held (take (length rest - 1) (drop 1 rest))) ≡ all
front_drafted vs a held old new [] some is whole = absurd (omega (arith, some))
front_drafted vs a held old new (p ∷ ps) some is whole =
    ap (λ l. drafted_after vs a new (picked held l)) (tail_is p ps)
    ∙ ap (λ d. drafted_after vs a d (picked held ps)) is
    ∙ go (slice_get held p)
    ∙ whole
  where
    go : (o : Option Held) → drafted_after vs a (drafted_at vs a old o) (picked held ps) ≡ drafted_after vs a old (cons_option o (picked held ps))
    go None = refl
    go (Some h) = refl

-- ---- the plan of a draft

backward : (a b n : ℕ) → (a < b) × (b < n) → not (ltb a b && ltb b n) ≡ true → ⊥
backward a b n low bad = grind (arith, nat_tests, low.0, low.1, bad)

module _ (d : Drafted) (is : IsDraft d) (tasks : List Planned) (edges : List Edge) (same_tasks : tasks ≡ d.tasks) (same_edges : edges ≡ d.edges) where
  as_plan : IsPlan takes_of count_given values_of edges tasks
  as_plan =
      subst (λ es. IsPlan takes_of count_given values_of es tasks) (sym (same_edges ∙ is.edges))
      (subst (λ ts. IsPlan takes_of count_given values_of (map edge_of (links_after is.held is.admission [] is.planned)) ts) (sym (same_tasks ∙ is.tasks)) (task_plan is.held is.admission is.planned))

  pub draft_takes : (task : ℕ) (job : Planned) → slice_get tasks task ≡ Some job → takes_of job ≡ count_in edges task
  draft_takes task job at = as_plan.takes_in task job at

  pub draft_gives : (task : ℕ) (job : Planned) → slice_get tasks task ≡ Some job → count_given job ≡ count_out edges task
  draft_gives task job at = as_plan.gives_out task job at

  pub never_bad : (place : ℕ) → first_bad (length tasks) edges ≡ Some place → ⊥
  never_bad place bad =
      let at = position-Some (λ edge. not (is_forward (length tasks) edge)) edges place (record { from = 0; to = 0 }) bad in
      backward (source edges place) (target edges place) (length tasks) (as_plan.forward place at.0) at.1

-- ---- the draft of a plan

module _ (s : Stored) (a : Admission) (held : List Held) (d : Drafted) (places : List ℕ) (apart : AreApart held) (drafted : d ≡ drafted_after (held_in s) a nothing_drafted (picked held places)) (are : picked held places ≡ planned_of (books_of s a held) s.executed) where
  abbrev planned : List Held
  planned = planned_of (books_of s a held) s.executed

  news : (hs front : List Held) → Along (Joins (books_of s a held) s.executed) front hs → AreNew (held_in s) a front hs
  news [] front along = tt
  news (h ∷ hs) front along = (along.0.not_planned, news hs (front ++ h ∷ []) along.1)

  draft_planned : d ≡ draft_of (held_in s) a planned
  draft_planned =
      drafted
      ∙ ap (drafted_after (held_in s) a nothing_drafted) are
      ∙ draft_is (held_in s) a planned (news planned [] (planned_along (books_of s a held) s.executed apart))

  pub is_draft : IsDraft d
  is_draft = record { held = held_in s; admission = a; planned = planned; tasks = ap (λ (x : Drafted). x.tasks) draft_planned; edges = ap (λ (x : Drafted). x.edges) draft_planned }

  pub draft_tasks : d.tasks ≡ tasks_of (books_of s a held) s.executed
  unfolding tasks_of links_of
  draft_tasks = ap (λ (x : Drafted). x.tasks) draft_planned

  pub draft_edges : d.edges ≡ edges_of (books_of s a held) s.executed
  unfolding edges_of links_of
  draft_edges = ap (λ (x : Drafted). x.edges) draft_planned
