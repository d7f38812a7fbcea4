-- The transaction that a line of a read schedule makes can be encoded.
use Rattle.std.proofs.Common.{refl, arith, lit≤}
use Rattle.std.proofs.lemmas.List.{length-map}
use Rattle.std.proofs.lemmas.List.Elements.{All-from_recursion}
use Rattle.std.specs.Prelude.{◌≡◌, ℕ, ◌≤◌, Bool, true, false, cond, ◌&&◌, List, [], ◌∷◌, map, find, length, slice_get, Option, Some, None, option_map, bytes_eq}
use Rattle.std.specs.List.{AllByRecursion}
use Rattle.wire_bcs.specs.Codec.{Codec}
use Rattle.wire_bcs.specs.Shapes.{seq, option}
use Rattle.wire_bcs.specs.Digests.{digest}
use Rattle.digest_core.specs.declared.Digest.{Digest}
use Rattle.digest_core.specs.Tagged.{created_id_of, genesis_id_of, address_of_name}
use Rattle.chain_types.specs.Objects.{object_id, address, object_ref, kind}
use Rattle.chain_types.specs.Transactions.{input, argument, command, transaction, signed}
use Rattle.chain_types.specs.Digests.{digest_of_object}
use Rattle.chain_types.specs.declared.objects.ObjectKey.{ObjectKey}
use Rattle.chain_types.specs.declared.objects.Object.{Object}
use Rattle.chain_types.specs.declared.objects.Kind.{Kind}
use Rattle.chain_types.specs.declared.objects.Kind.TheVariants as kinds_of
use Rattle.chain_types.specs.declared.transactions.Argument.{Argument}
use Rattle.chain_types.specs.declared.transactions.Transaction.{Transaction}
use Rattle.schedule_text.specs.declared.words.ObjWord.{ObjWord}
use Rattle.schedule_text.specs.declared.words.ObjWord.TheVariants as object_word
use Rattle.schedule_text.specs.declared.words.RefWord.{RefWord}
use Rattle.schedule_text.specs.declared.words.InputWord.{InputWord}
use Rattle.schedule_text.specs.declared.words.InputWord.TheVariants as input_word
use Rattle.schedule_text.specs.declared.words.ArgWord.{ArgWord}
use Rattle.schedule_text.specs.declared.words.ArgWord.TheVariants as arg_word
use Rattle.schedule_text.specs.declared.words.CommandWord.{CommandWord}
use Rattle.schedule_text.specs.declared.words.CommandWord.TheVariants as command_word
use Rattle.schedule_text.specs.Commands.{native_names}
use Rattle.protocol_spec.proofs.ListLemmas.{each_has, find_has}
use Rattle.protocol_spec.specs.Chain.Words.{Each, first_some}
use Rattle.protocol_spec.specs.Member.Member.{Member}
use Rattle.protocol_spec.specs.Member.Versions.{Version, versions, version_at}
use Rattle.world_spec.specs.Setting.{Name, Thing, Setting}
use Rattle.world_spec.specs.World.{Seat, World, Made, says_first, member_in}
use Rattle.world_spec.specs.Names.{made_named}
use Rattle.world_spec.specs.Making.{spoiled_bytes, spoiled_if, thing_at, digest_at, digest_named, id_of, digest_in, held_digest, digest_or_zero, reference_digest, reference_of, input_of, argument_of, first_word, words_behind, last_word, words_before, kinds, kind_or, command_of, TxLine, transaction_of}
use Rattle.run_law.specs.Sayable.{IsNumber, IsRef, IsInput, IsArg, IsCommand}
use Rattle.run_law.proofs.Members.{IsDigest, IsOrigin, AreOrigins, tagged-digest}
use Rattle.run_law.proofs.Texts.{most_words, IsShortInput, IsShortCommand}

-- ---- digests

spoiled-many : (bytes : List ℕ) → length (spoiled_bytes bytes) ≡ length bytes
spoiled-many [] = refl
spoiled-many (b ∷ bytes) = refl

pub spoiled-digest : (b : Bool) (d : Digest) → IsDigest d → IsDigest (spoiled_if b d)
spoiled-digest true d is = let same = spoiled-many d.0 in omega (arith, same, is)
spoiled-digest false d is = is

address-digest : (name : Name) → IsDigest (address_of_name name)
unfolding address_of_name
address-digest name = tagged-digest _ name

created-digest : (tx : Digest) (number : ℕ) → IsDigest (created_id_of tx number)
unfolding created_id_of
created-digest tx number = tagged-digest _ _

pub genesis-digest : (number : ℕ) → IsDigest (genesis_id_of number)
unfolding genesis_id_of
genesis-digest number = tagged-digest _ _

object-digest : (o : Object) → IsDigest (digest_of_object o)
unfolding digest_of_object
object-digest o = tagged-digest _ _

abbrev pub IsFitMade : Made → Type 0
IsFitMade t = signed.fits t.signed × IsDigest t.digest × (length t.signed.tx.inputs ≤ most_words)

abbrev pub AreThings : List Thing → Type 0
AreThings things = Each (λ (t : Thing). IsDigest t.id.0) things

pub named-digest : (w : World) (name : Name) → Each IsFitMade w.txs → IsDigest (digest_named w name)
named-digest w name txs = go (made_named w name) refl
  where
    go : (o : Option Made) → made_named w name ≡ o → IsDigest (digest_at o)
    go None e = refl
    go (Some t) e = (each_has IsFitMade w.txs t txs (find_has (λ (x : Made). bytes_eq x.name name) w.txs t e)).1

-- what the first member says, if each says digests
first-said : (s : Setting) (says : Member → Option Digest) (seats : List Seat) → ((m : Member) → IsOrigin (says m)) → IsOrigin (says_first s says seats)
first-said s says [] each = tt
first-said s says (seat ∷ seats) each = joined (cond (seat.honest && seat.up) (says (member_in s seat)) None) (says_first s says seats) (chosen (seat.honest && seat.up) (says (member_in s seat)) (each (member_in s seat))) (first-said s says seats each)
  where
    chosen : (b : Bool) (o : Option Digest) → IsOrigin o → IsOrigin (cond b o None)
    chosen true o is = is
    chosen false o is = tt

    joined : (a b : Option Digest) → IsOrigin a → IsOrigin b → IsOrigin (first_some (a ∷ b ∷ []))
    joined (Some d) b one two = one
    joined None (Some d) one two = two
    joined None None one two = tt

or-zero : (o : Option Digest) → IsOrigin o → IsDigest (digest_or_zero o)
or-zero None is = refl
or-zero (Some d) is = is

held-said : (o : Option Version) → IsOrigin (option_map digest_in o)
held-said None = tt
held-said (Some v) = object-digest v.object

reference-digest : (s : Setting) (w : World) (key : ObjectKey) → IsDigest (reference_digest s w key)
reference-digest s w key = or-zero (says_first s (held_digest key) w.seats) (first-said s (held_digest key) w.seats (λ m. held-said (version_at (versions m.opening m.executed) key)))

-- ---- inputs

module _ (s : Setting) (w : World) (things : AreThings s.things) (txs : Each IsFitMade w.txs) where
  id-digest : (o : ObjWord) → IsDigest (id_of s w o).0
  id-digest (object_word.Setup name) = go (find (λ (t : Thing). bytes_eq t.name name) s.things) refl
    where
      go : (o : Option Thing) → find (λ (t : Thing). bytes_eq t.name name) s.things ≡ o → IsDigest (thing_at o).0
      go None e = refl
      go (Some t) e = each_has (λ (x : Thing). IsDigest x.id.0) s.things t things (find_has (λ (x : Thing). bytes_eq x.name name) s.things t e)
  id-digest (object_word.Created tx number) = created-digest (digest_named w tx) number

  reference-fits : (r : RefWord) → IsRef r → object_ref.fits (reference_of s w r)
  unfolding object_ref object_id digest
  reference-fits r is =
      (id-digest r.object, (is.1, spoiled-digest r.spoiled (reference_digest s w (record { id = id_of s w r.object; version = r.version })) (reference-digest s w (record { id = id_of s w r.object; version = r.version }))))

  input-fits : (x : InputWord) → IsInput x → IsShortInput most_words x → input.fits (input_of s w x)
  unfolding input object_id digest
  input-fits (input_word.Number n) is short = omega arith
  input-fits (input_word.Address name) is short = let same = address-digest name in omega (arith, same)
  input-fits (input_word.Bytes bytes) is short = omega (arith, short)
  input-fits (input_word.Owned r) is short = reference-fits r is
  input-fits (input_word.Immutable r) is short = reference-fits r is
  input-fits (input_word.Shared o initial mutable) is short = (id-digest o, (is.1, tt))

  inputs-fit : (xs : List InputWord) → AllByRecursion IsInput xs → AllByRecursion (IsShortInput most_words) xs → AllByRecursion input.fits (map (input_of s w) xs) × (length (map (input_of s w) xs) ≡ length xs)
  inputs-fit [] is short = (tt, refl)
  inputs-fit (x ∷ xs) is short =
      let rest = inputs-fit xs is.1 short.1 in
      let same = rest.1 in
      ((input-fits x is.0 short.0, rest.0), omega (arith, same))

-- ---- commands

argument-fits : (a : ArgWord) → IsArg a → argument.fits (argument_of a)
unfolding argument
argument-fits arg_word.Gas is = tt
argument-fits (arg_word.Input n) is = omega (arith, is)
argument-fits (arg_word.Result n) is = omega (arith, is)
argument-fits (arg_word.Nested n k) is = let one = is.0 in let two = is.1 in (omega (arith, one), omega (arith, two))

gas-fits : argument.fits (argument_of arg_word.Gas)
gas-fits = argument-fits arg_word.Gas tt

-- this many arguments at most
abbrev AreArguments : ℕ → List Argument → Type 0
AreArguments n args = (length args ≤ n) × AllByRecursion argument.fits args

arguments-fit : (words : List ArgWord) → AllByRecursion IsArg words → AreArguments (length words) (map argument_of words)
arguments-fit [] is = (omega arith, tt)
arguments-fit (a ∷ words) is = let rest = arguments-fit words is.1 in let few = rest.0 in (omega (arith, few), (argument-fits a is.0, rest.1))

first-fits : (words : List ArgWord) → AllByRecursion IsArg words → argument.fits (first_word words)
first-fits [] is = gas-fits
first-fits (a ∷ words) is = argument-fits a is.0

behind-fit : (words : List ArgWord) → AllByRecursion IsArg words → AreArguments (length words) (words_behind words)
behind-fit [] is = (omega arith, tt)
behind-fit (a ∷ words) is = let rest = arguments-fit words is.1 in let few = rest.0 in (omega (arith, few), rest.1)

last-fits : (words : List ArgWord) → AllByRecursion IsArg words → argument.fits (last_word words)
last-fits [] is = gas-fits
last-fits (a ∷ []) is = argument-fits a is.0
last-fits (a ∷ b ∷ words) is = last-fits (b ∷ words) is.1

before-fit : (words : List ArgWord) → AllByRecursion IsArg words → AreArguments (length words) (words_before words)
before-fit [] is = (omega arith, tt)
before-fit (a ∷ []) is = (omega arith, tt)
before-fit (a ∷ b ∷ words) is = let rest = before-fit (b ∷ words) is.1 in let few = rest.0 in (omega (arith, few), (argument-fits a is.0, rest.1))

spelled-arguments : (n : ℕ) (args : List Argument) → n ≤ most_words → AreArguments n args → (seq argument).fits args
spelled-arguments n args le are = let few = are.0 in (omega (arith, le, few), All-from_recursion argument.fits args are.1)

kind-fits : (k : Kind) → kind.fits k
unfolding kind
kind-fits kinds_of.Coin = tt
kind-fits kinds_of.Cap = tt
kind-fits kinds_of.Counter = tt
kind-fits kinds_of.Vault = tt
kind-fits kinds_of.VaultKey = tt
kind-fits kinds_of.Limit = tt

-- the number of a native is a byte
natives-few : length native_names ≤ 255
natives-few = lit≤ tt

command-fits : (c : CommandWord) → IsCommand c → IsShortCommand most_words c → command.fits (command_of c)
unfolding command
command-fits (command_word.Split words) is short = (first-fits words is.1, spelled-arguments (length words) (words_behind words) short (behind-fit words is.1))
command-fits (command_word.Merge words) is short = (first-fits words is.1, spelled-arguments (length words) (words_behind words) short (behind-fit words is.1))
command-fits (command_word.Transfer words) is short = (spelled-arguments (length words) (words_before words) short (before-fit words is.1), last-fits words is.1)
command-fits (command_word.MakeVec n values) is short = (kind-fits (kind_or (slice_get kinds n)), spelled-arguments (length values) (map argument_of values) short (arguments-fit values is.1))
command-fits (command_word.Call native words) is short = let known = is.0 in let few = natives-few in (omega (arith, known, few), spelled-arguments (length words) (map argument_of words) short (arguments-fit words is.1))

commands-fit : (cs : List CommandWord) → AllByRecursion IsCommand cs → AllByRecursion (IsShortCommand most_words) cs → AllByRecursion command.fits (map command_of cs) × (length (map command_of cs) ≡ length cs)
commands-fit [] is short = (tt, refl)
commands-fit (c ∷ cs) is short =
    let rest = commands-fit cs is.1 short.1 in
    let same = rest.1 in
    ((command-fits c is.0 short.0, rest.0), omega (arith, same))

-- ---- the transaction

spelled-list : {A : Type 0} (c : Codec A) (xs : List A) (n : ℕ) → length xs ≡ n → n ≤ most_words → AllByRecursion c.fits xs → (seq c).fits xs
spelled-list c xs n same le each = (omega (arith, same, le), All-from_recursion c.fits xs each)

-- the words of a line that a text can say
pub record IsFitLine (l : TxLine) : Type 0 where
  pub epoch : IsNumber l.epoch
  pub gas : IsRef l.gas
  pub budget : IsNumber l.budget
  pub inputs : AllByRecursion IsInput l.inputs
  pub commands : AllByRecursion IsCommand l.commands
  pub few_inputs : length l.inputs ≤ most_words
  pub short_inputs : AllByRecursion (IsShortInput most_words) l.inputs
  pub few_commands : length l.commands ≤ most_words
  pub short_commands : AllByRecursion (IsShortCommand most_words) l.commands

pub few-made : (s : Setting) (w : World) (l : TxLine) → IsFitLine l → length (transaction_of s w l).inputs ≤ most_words
few-made s w l is = let same = length-map l.inputs (input_of s w) in let few = is.few_inputs in omega (arith, same, few)

pub transaction-fits : (s : Setting) (w : World) (l : TxLine) → AreThings s.things → Each IsFitMade w.txs → IsFitLine l → transaction.fits (transaction_of s w l)
unfolding transaction address digest
transaction-fits s w l things txs is =
    let inputs = inputs-fit s w things txs l.inputs is.inputs is.short_inputs in
    let commands = commands-fit l.commands is.commands is.short_commands in
    let given = spelled-list input (map (input_of s w) l.inputs) (length l.inputs) inputs.1 is.few_inputs inputs.0 in
    let steps = spelled-list command (map command_of l.commands) (length l.commands) commands.1 is.few_commands commands.0 in
    (is.epoch, (address-digest l.sender, (reference-fits s w things txs l.gas is.gas, (is.budget, (given, steps)))))

pub signed-fits : (t : Transaction) (seal : Digest) → transaction.fits t → IsDigest seal → signed.fits (record { tx = t; seal = seal })
unfolding signed digest
signed-fits t seal fits is = (fits, is)

-- ---- origins

origin-fits : (o : Option Digest) → IsOrigin o → (option digest).fits o
unfolding digest
origin-fits None is = tt
origin-fits (Some d) is = is

each-origin : (os : List (Option Digest)) → Each IsOrigin os → AllByRecursion (option digest).fits os
each-origin [] each = tt
each-origin (o ∷ os) each = (origin-fits o each.0, each-origin os each.1)

pub origins-fit : (os : List (Option Digest)) → AreOrigins os → (seq (option digest)).fits os
origins-fit os are = (are.0, All-from_recursion (option digest).fits os (each-origin os are.1))
