-- What a transaction of valid shape and objects that fit it give for its execution.
use Rattle.std.proofs.Common.{◌≡◌, ◌≤◌, ◌<◌, ◌+◌, ℕ, suc, Bool, true, false, ◌&&◌, length, List, [], ◌∷◌, ◌++◌, map, None, Result, Ok, Err, IfOk, refl, ap, ◌∙◌, arith, add-one}
use Rattle.std.specs.Prelude.{nat_lt}
use Rattle.std.specs.List.{list_any}
use Rattle.std.proofs.lemmas.Bool.{ltb-false, ltb-true}
use Rattle.digest_core.specs.declared.Digest.{Digest}
use Rattle.chain_types.specs.declared.objects.Object.{Object}
use Rattle.chain_types.specs.declared.transactions.Transaction.{Transaction}
use Rattle.chain_types.specs.Digests.{lamport_version}
use Rattle.chain_types.specs.declared.objects.ObjectId.{ObjectId}
use Rattle.effects_core.specs.declared.effects.Status.{Status}
use Rattle.effects_core.specs.declared.effects.Status.TheVariants as status
use Rattle.protocol_spec.specs.declared.pieces.Executed.{Executed}
use Rattle.wire_bcs.specs.declared.seq.OutOfMemory.{OutOfMemory}
use Rattle.protocol_spec.proofs.ListLemmas.{none_at}
use Rattle.protocol_spec.proofs.Truth.{where_false_number}
use Rattle.protocol_spec.specs.Chain.Keys.{fit_inputs, fits, objects_of, pays_gas, version_limit, version_of}
use Rattle.protocol_spec.specs.Chain.Shape.{is_empty_list, is_no_native, shape_cases, shape_fault}
use Rattle.protocol_spec.specs.Block.Block as block
use Rattle.protocol_spec.specs.Block.Execution.{Failure, executed_as, executed_by, failed_objects, failed_status, less_cost_first, with_rest_first, written_places}
use Rattle.ptb_run.specs.Outcomes.{is_wide}
use Rattle.ptb_run.specs.Versions.{greatest_version}
use Rattle.ptb_run.specs.declared.written.Moved.{Moved}
use Rattle.ptb_run.specs.Written.{moved_of}
use Rattle.ptb_run.specs.Left.{Left, firsts_after}
use Rattle.ptb_run.specs.Remains.{created_below, gone_after, kept_after, same_after}
use Rattle.ptb_run.proofs.Remaining.{deleted_are, done_are, failed_are}

pub few_commands : (t : Transaction) → shape_fault t ≡ None → length t.commands ≤ 1024
unfolding shape_fault
few_commands t e = ltb-false 1024 (length t.commands) (where_false_number (nat_lt 1024 (length t.commands)) 3 (none_at (shape_cases t) 2 e))

pub known_natives : (t : Transaction) → shape_fault t ≡ None → list_any is_no_native t.commands ≡ false
unfolding shape_fault
known_natives t e = where_false_number (list_any is_no_native t.commands) 9 (none_at (shape_cases t) 8 e)

pub none_wide : (t : Transaction) → shape_fault t ≡ None → list_any is_wide t.commands ≡ false
unfolding shape_fault
none_wide t e = where_false_number (list_any is_wide t.commands) 12 (none_at (shape_cases t) 11 e)

last_holds : (a b c : Bool) → (a && b && c) ≡ true → c ≡ true
last_holds true true true e = refl
last_holds true true false e = absurd (cc)
last_holds true false c e = absurd (cc)
last_holds false b c e = absurd (cc)

pub fits_low : (t : Transaction) (objects : List Object) → fits t objects ≡ true → nat_lt (version_of objects) version_limit ≡ true
unfolding fits
fits_low t objects e = last_holds (fit_inputs t (objects_of t) objects) (pays_gas t objects) (nat_lt (version_of objects) version_limit) e

pub fits_some : (t : Transaction) (objects : List Object) → fits t objects ≡ true → is_empty_list objects ≡ false
unfolding fits
fits_some t [] e = absurd (cc)
fits_some t (o ∷ os) e = refl

pub version_is : (objects : List Object) (g : ℕ) → g ≡ greatest_version objects → g + 1 ≡ version_of objects
unfolding lamport_version
version_is objects g e = add-one g ∙ ap suc e

pub version_low : (objects : List Object) (g : ℕ) → g ≡ greatest_version objects → nat_lt (version_of objects) version_limit ≡ true → g < 4611686018427387904
version_low objects g e low = let at = version_is objects g e in let below = ltb-true (version_of objects) version_limit low in omega arith

-- what is executed as the code puts it together is what is executed as the definition has it
same_as : (t : Transaction) (tx : Digest) (how : Status) (made : ℕ) (version after : ℕ) (os others : List Object) (ids gone : List ObjectId)
    → version ≡ after → os ≡ others → ids ≡ gone → executed_as t tx version how made os ids ≡ executed_as t tx after how made others gone
same_as t tx how made version after os others ids gone e f g =
    ap (λ (v : ℕ). executed_as t tx v how made os ids) e ∙ ap (λ (l : List Object). executed_as t tx after how made l ids) f ∙ ap (λ (l : List ObjectId). executed_as t tx after how made others l) g

pub executed_as_done : (t : Transaction) (tx : Digest) (objects : List Object) (b : block.Block) (r : Result Executed OutOfMemory) (version made : ℕ) (os : List Object) (ids : List ObjectId) (left : Left) (ms : List Moved)
    → IfOk r (λ x. x ≡ executed_as t tx version status.Done made os ids) → made ≡ b.made
    → os ≡ with_rest_first t (kept_after version left b [] ms) ++ created_below tx version left b.made → ids ≡ gone_after version left b [] ms
    → left ≡ firsts_after [] b.placed → map moved_of ms ≡ written_places t objects → version ≡ version_of objects → IfOk r (λ x. x ≡ executed_by t tx objects (Ok b))
executed_as_done t tx objects b (Err e) version made os ids left ms is be oe ie le me ve = is
executed_as_done t tx objects b (Ok x) version made os ids left ms is be oe ie le me ve =
    is
    ∙ ap (λ (n : ℕ). executed_as t tx version status.Done n os ids) be
    ∙ same_as t tx status.Done b.made version (version_of objects) os _ ids _ ve (oe ∙ done_are t tx objects b version left ms ve le me) (ie ∙ deleted_are t objects b version left ms ve le me)

pub executed_as_failed : (t : Transaction) (tx : Digest) (objects : List Object) (failure : Failure) (r : Result Executed OutOfMemory) (version : ℕ) (how : Status) (os : List Object) (none : List ObjectId) (ms : List Moved)
    → IfOk r (λ x. x ≡ executed_as t tx version how 0 os none) → how ≡ failed_status failure → none ≡ [] → os ≡ less_cost_first t (same_after version [] ms)
    → map moved_of ms ≡ written_places t objects → version ≡ version_of objects → IfOk r (λ x. x ≡ executed_by t tx objects (Err failure))
executed_as_failed t tx objects failure (Err e) version how os none ms is he ne oe me ve = is
executed_as_failed t tx objects failure (Ok x) version how os none ms is he ne oe me ve =
    is
    ∙ ap (λ (s : Status). executed_as t tx version s 0 os none) he
    ∙ same_as t tx (failed_status failure) 0 version (version_of objects) os (failed_objects t objects) none [] ve (oe ∙ failed_are t objects version ms ve me) ne
