-- The reader's state goes with the schedule when a line is added.
use Rattle.std.proofs.Common.{◌≡◌, ℕ, Bool, true, false, not, ◌||◌, List, [], ◌∷◌, ◌++◌, Option, Some, None, Ok, Err, refl, ap, sym, ◌∙◌}
use Rattle.std.proofs.lemmas.List.Elements.{filter_map-append}
use Rattle.std.specs.List.{list_any, filter_map, cons_option}
use Rattle.std.specs.Option.{option_to_list}
use Rattle.schedule_text.specs.declared.cause.Cause.{Cause}
use Rattle.schedule_text.specs.declared.words.Schedule.{Schedule}
use Rattle.schedule_text.specs.declared.words.Setup.{Setup}
use Rattle.schedule_text.specs.declared.words.Setup.TheVariants as setup
use Rattle.schedule_text.specs.declared.words.Event.{Event}
use Rattle.schedule_text.specs.declared.words.Event.TheVariants as event
use Rattle.schedule_text.specs.Agrees.{IsNewName, IsNewNumber}
use Rattle.schedule_text.specs.Known.{Check, check, also, is_among, roles, role_of, object_names, object_name, tx_names, tx_name, currencies, currency_of, has_limit, is_limit, new_object_check, new_tx_check, setup_kind_check, setup_check, event_check}

option-cons : {Y : Type 0} (o : Option Y) → cons_option o [] ≡ option_to_list o
option-cons None = refl
option-cons (Some y) = refl

filter_map-push : {X Y : Type 0} (h : X → Option Y) (xs : List X) (x : X) → filter_map h (xs ++ x ∷ []) ≡ filter_map h xs ++ option_to_list (h x)
filter_map-push h xs x = filter_map-append h xs (x ∷ []) ∙ ap (λ t. filter_map h xs ++ t) (option-cons (h x))

or_false : (a b : Bool) → (a || (b || false)) ≡ (a || b)
or_false true b = refl
or_false false true = refl
or_false false false = refl

list_any-push : {X : Type 0} (p : X → Bool) (xs : List X) (x : X) → list_any p (xs ++ x ∷ []) ≡ (list_any p xs || p x)
list_any-push p [] x = or_false false (p x)
list_any-push p (y ∷ xs) x = elim (p y) as (λ b. (b || list_any p (xs ++ x ∷ [])) ≡ ((b || list_any p xs) || p x)) [ true ↦ refl | false ↦ list_any-push p xs x ]

-- what the state says after one more line
pub roles_after : (xs new : List Setup) (x : Setup) (had has : List Bool) → had ≡ roles xs → has ≡ had ++ option_to_list (role_of x) → new ≡ xs ++ x ∷ [] → has ≡ roles new
unfolding roles
roles_after xs new x had has before more added =
    more ∙ ap (λ t. t ++ option_to_list (role_of x)) before ∙ sym (ap roles added ∙ filter_map-push role_of xs x)

pub objects_after : (xs new : List Setup) (x : Setup) (had has : List (List ℕ)) → had ≡ object_names xs → has ≡ had ++ option_to_list (object_name x) → new ≡ xs ++ x ∷ [] → has ≡ object_names new
unfolding object_names
objects_after xs new x had has before more added =
    more ∙ ap (λ t. t ++ option_to_list (object_name x)) before ∙ sym (ap object_names added ∙ filter_map-push object_name xs x)

pub currencies_after : (xs new : List Setup) (x : Setup) (had has : List ℕ) → had ≡ currencies xs → has ≡ had ++ option_to_list (currency_of x) → new ≡ xs ++ x ∷ [] → has ≡ currencies new
unfolding currencies
currencies_after xs new x had has before more added =
    more ∙ ap (λ t. t ++ option_to_list (currency_of x)) before ∙ sym (ap currencies added ∙ filter_map-push currency_of xs x)

pub txs_after : (xs new : List Event) (x : Event) (had has : List (List ℕ)) → had ≡ tx_names xs → has ≡ had ++ option_to_list (tx_name x) → new ≡ xs ++ x ∷ [] → has ≡ tx_names new
unfolding tx_names
txs_after xs new x had has before more added =
    more ∙ ap (λ t. t ++ option_to_list (tx_name x)) before ∙ sym (ap tx_names added ∙ filter_map-push tx_name xs x)

pub limit_after : (xs new : List Setup) (x : Setup) (had has : Bool) → had ≡ has_limit xs → has ≡ (had || is_limit x) → new ≡ xs ++ x ∷ [] → has ≡ has_limit new
unfolding has_limit
limit_after xs new x had has before more added =
    more ∙ ap (λ t. t || is_limit x) before ∙ sym (ap has_limit added ∙ list_any-push is_limit xs x)

-- checks that find nothing
also_first : (a b : Check) (u : Unit {0}) → also a b ≡ Ok u → a ≡ Ok tt
also_first (Ok v) b u h = refl
also_first (Err c) b u h = cc

also_next : (a b : Check) (u : Unit {0}) → also a b ≡ Ok u → b ≡ Ok u
also_next (Ok v) b u h = h
also_next (Err c) b u h = cc

check_holds : (b : Bool) (c : Cause) (u : Unit {0}) → check b c ≡ Ok u → b ≡ true
check_holds true c u h = refl
check_holds false c u h = cc

not_false : (b : Bool) → not b ≡ true → b ≡ false
not_false true h = cc
not_false false h = refl

new_object : (s : Schedule) (name : List ℕ) (u : Unit {0}) → new_object_check s name ≡ Ok u → is_among (object_names s.setup) name ≡ false
new_object s name u h = not_false _ (check_holds _ _ u h)

pub object_is_new : (s : Schedule) (x : Setup) (u : Unit {0}) → setup_check s x ≡ Ok u → IsNewName (object_names s.setup) (object_name x)
unfolding setup_check setup_kind_check
object_is_new s (setup.Member stake honest) u h = tt
object_is_new s (setup.Coin name owner balance) u h = new_object s name u (also_next _ _ u h)
object_is_new s (setup.Counter name value) u h = new_object s name u (also_next _ _ u h)
object_is_new s (setup.Cap name owner currency) u h = new_object s name tt (also_first _ _ u (also_next _ _ u h))
object_is_new s (setup.Writers n) u h = tt

pub currency_is_new : (s : Schedule) (x : Setup) (u : Unit {0}) → setup_check s x ≡ Ok u → IsNewNumber (currencies s.setup) (currency_of x)
unfolding setup_check setup_kind_check
currency_is_new s (setup.Member stake honest) u h = tt
currency_is_new s (setup.Coin name owner balance) u h = tt
currency_is_new s (setup.Counter name value) u h = tt
currency_is_new s (setup.Cap name owner currency) u h = not_false _ (check_holds _ _ u (also_next _ _ u (also_next _ _ u h)))
currency_is_new s (setup.Writers n) u h = tt

pub tx_is_new : (s : Schedule) (e : Event) (u : Unit {0}) → event_check s e ≡ Ok u → IsNewName (tx_names s.events) (tx_name e)
unfolding event_check new_tx_check
tx_is_new s (event.Tx name sender spoiled epoch gas budget inputs commands) u h = not_false _ (check_holds _ _ tt (also_first _ _ u (also_next _ _ u h)))
tx_is_new s e u h = tt
