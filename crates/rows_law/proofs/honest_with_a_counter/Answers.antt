use Rattle.std.proofs.Common.{refl, arith}
use Rattle.std.specs.Prelude.{◌≡◌, ℕ, List, [], ◌∷◌, ◌++◌, map, flat_map, true, false, codes, Ok}
use Rattle.std.specs.Int.{w64, to_le_bytes}
use Rattle.std.specs.Fmt.{digits}
use Rattle.sha2.specs.Sha256.{sha256, digest_bytes, hash_after, compress, rounds, schedule, first_words}
use Rattle.wire_bcs.specs.Digests.{digest}
use Rattle.wire_bcs.specs.Items.{front_read, number_spell, number_read, bool_spell, bool_read, bytes_spell, bytes_read, text_read}
use Rattle.wire_bcs.specs.Shapes.{seq_read, seq_spell, option_read, option_spell}
use Rattle.wire_bcs.specs.Uleb.{uleb, uleb_below}
use Rattle.wire_bcs.specs.Whole.{whole}
use Rattle.digest_core.specs.Tagged.{tagged_digest, created_id_of, genesis_id_of, address_of_name}
use Rattle.chain_types.specs.Digests.{digest_of_object, transaction_digest, consumed_keys, object_count, lamport_version}
use Rattle.chain_types.specs.Objects.{object_id, address, object_ref, owner, kind, content, object}
use Rattle.chain_types.specs.Transactions.{input, argument, command, transaction, signed}
use Rattle.quorum_core.specs.Signers.{signer}
use Rattle.chain_messages.specs.Messages.{statement, sealed, member_seal, certificate, entry}
use Rattle.effects_core.specs.Effects.{status, written, effects, digest_of_effects}
use Rattle.checkpoint_core.specs.Checkpoints.{item, checkpoint, digest_of_checkpoint}
use Rattle.journal_core.specs.Records.{ran_item, journal_record}
use Rattle.protocol_spec.specs.Chain.Certificates.{read_signed, read_certificate, read_entry, cert_refusal}
use Rattle.protocol_spec.specs.Chain.Committee.{weight_of, total_of}
use Rattle.protocol_spec.specs.Chain.Keys.{fits, currency_sum}
use Rattle.protocol_spec.specs.Chain.Shape.{shape_fault}
use Rattle.protocol_spec.specs.Block.Commands.{command_step}
use Rattle.protocol_spec.specs.Block.Execution.{outcome, execution}
use Rattle.protocol_spec.specs.Block.Natives.{mode_of, native_gives}
use Rattle.protocol_spec.specs.Member.Admission.{current, admit, entered, passed_mark, pending_on, deferred_on, assigned_of}
use Rattle.protocol_spec.specs.Member.Calls.{vote_answer, hold_answer, see_answer, run_answer, close_answer, end_answer, turn_answer, ack_answer, due}
use Rattle.protocol_spec.specs.Member.Checkpoints.{checkpoint_behind}
use Rattle.protocol_spec.specs.Member.Member.{built, fork_of, after, state}
use Rattle.protocol_spec.specs.Member.Replay.{is_allowed, replayed}
use Rattle.protocol_spec.specs.Member.Rounds.{wants_of, present, ready, round_of, rounds as rounds_of_rounds, left}
use Rattle.protocol_spec.specs.Member.Sequence.{what_of, with_entry, saw, seen, seen_what}
use Rattle.protocol_spec.specs.Member.Sequential.{map_of, fold_one, fold_all}
use Rattle.protocol_spec.specs.Member.Versions.{versions, live, live_list}
use Rattle.protocol_spec.specs.Member.Votes.{vote_refusal, vote_origins}
use Rattle.world_spec.specs.Assumptions.{delivered, delivered_ends, asked, all_delivered, all_formed, all_transactions}
use Rattle.world_spec.specs.Keyed.{keyed_seal}
use Rattle.world_spec.specs.Making.{made_over}
use Rattle.world_spec.specs.Openings.{opening_at}
use Rattle.world_spec.specs.Report.{acks_collected, lines_over}
use Rattle.world_spec.specs.Run.{report, world_after, journal, sums_of, summary, report_of}
use Rattle.world_spec.specs.Setting.{setting_of}
use Rattle.world_spec.specs.Step.{votes_collected, happens_over}
use Rattle.world_spec.specs.World.{new_world, stated, reached_over, called_over}
use Rattle.schedule_text.specs.Bytes.{is_name, is_digits, value_from, number_of, number_in, cut_at, has_mark, without_mark, each_of}
use Rattle.schedule_text.specs.Commands.{is_place, place_value, is_arg, arg_of, native_of, kind_of, command_kind, command_parts, is_command, command_of}
use Rattle.schedule_text.specs.Inputs.{is_hex, hex_of, input_kind, input_parts, is_input, input_of}
use Rattle.schedule_text.specs.Known.{roles, object_names, currencies, has_limit, tx_names, each_check, setup_kind_check, setup_check, new_tx_check, fvote_check, ack_check, event_check, add_line}
use Rattle.schedule_text.specs.Lines.{member_number, member_line, coin_line, counter_line, cap_line, writers_line, after_inputs, front_inputs, block_form, block_of, tx_line, member_and_tx, member_alone, member_and_number, tx_and_members, origins_of, fvote_line, order_tx, order_end, order_line, stop_line, raw_line, ack_event, ack_line, member_event, event_of, statement_of}
use Rattle.schedule_text.specs.Refs.{is_object, object_of, is_ref, ref_of, is_shared}
use Rattle.schedule_text.specs.Schedule.{read_line, read_lines, schedule_of}
use Rattle.chain_types.specs.declared.objects.Object.{Object}
use Rattle.chain_types.specs.declared.objects.Owner.TheVariants as owner_as
use Rattle.chain_types.specs.declared.objects.Content.TheVariants as content_as
use Rattle.chain_types.specs.declared.transactions.SignedTx.{SignedTx}
use Rattle.chain_types.specs.declared.transactions.Transaction.{Transaction}
use Rattle.chain_types.specs.declared.transactions.Input.TheVariants as inputs_as
use Rattle.chain_types.specs.declared.transactions.Command.TheVariants as command_as
use Rattle.chain_types.specs.declared.transactions.Argument.TheVariants as argument_as
use Rattle.chain_types.specs.Equal.{digest_eq, id_eq}
use Rattle.chain_messages.specs.declared.messages.Certificate.{Certificate}
use Rattle.protocol_spec.specs.Chain.Words.{repeats}
use Rattle.schedule_text.specs.declared.words.Schedule.{Schedule}
use Rattle.schedule_text.specs.declared.words.Setup.TheVariants as setup
use Rattle.schedule_text.specs.declared.words.Event.TheVariants as event
use Rattle.schedule_text.specs.declared.words.ObjWord.TheVariants as object_word
use Rattle.schedule_text.specs.declared.words.InputWord.TheVariants as input_word
use Rattle.schedule_text.specs.declared.words.ArgWord.TheVariants as arg_word
use Rattle.schedule_text.specs.declared.words.CommandWord.TheVariants as command_word
use Rattle.world_spec.specs.Keyed.{keyed, program_secret}
use Rattle.world_spec.specs.Assumptions.{FewFaulty, all_of}
use Rattle.world_spec.specs.World.{Made}
use Rattle.rows_law.specs.Met.{text_of}
use Rattle.rows_law.specs.HonestWithACounter.{lines, report as report_is}
use Rattle.rows_law.proofs.Distinct.{IsAmong, IsComputed, created_id, meets-all, numbered, opened_id}
use Rattle.rows_law.proofs.honest_with_a_counter.Goals as goal

abbrev the_schedule : Schedule
the_schedule = record {
  setup =
      setup.Member 1 true ∷
      setup.Member 1 true ∷
      setup.Member 1 true ∷
      setup.Member 1 false ∷
      setup.Coin (codes "a0") (codes "alice") 10000 ∷
      setup.Coin (codes "b0") (codes "bob") 10000 ∷
      setup.Counter (codes "hits") 5 ∷ [];
  events =
      event.Tx (codes "ten") (codes "alice") false 0 (record { object = object_word.Setup (codes "a0"); version = 1; spoiled = false }) 2000 (input_word.Number 10 ∷ input_word.Shared (object_word.Setup (codes "hits")) 1 true ∷ []) (command_word.Call 5 (arg_word.Input 1 ∷ arg_word.Input 0 ∷ []) ∷ []) ∷
      event.Tx (codes "one") (codes "bob") false 0 (record { object = object_word.Setup (codes "b0"); version = 1; spoiled = false }) 2000 (input_word.Number 1 ∷ input_word.Shared (object_word.Setup (codes "hits")) 1 true ∷ []) (command_word.Call 5 (arg_word.Input 1 ∷ arg_word.Input 0 ∷ []) ∷ []) ∷
      event.Vote 0 (codes "ten") ∷
      event.Vote 1 (codes "ten") ∷
      event.Vote 2 (codes "ten") ∷
      event.Cert (codes "ten") (0 ∷ 1 ∷ 2 ∷ []) ∷
      event.Vote 0 (codes "one") ∷
      event.Vote 1 (codes "one") ∷
      event.Fvote 3 (codes "one") [] ∷
      event.Cert (codes "one") (0 ∷ 1 ∷ 3 ∷ []) ∷
      event.Order (codes "ten") ∷
      event.Order (codes "one") ∷
      event.OrderCommit ∷
      event.See 0 3 ∷
      event.Run 0 1 ∷ [];
}

is_read : schedule_of (text_of lines) ≡ Ok the_schedule
unfolding digits sha256 digest_bytes hash_after compress rounds schedule first_words digest front_read number_spell number_read bool_spell bool_read bytes_spell bytes_read text_read seq_read seq_spell option_read option_spell uleb uleb_below whole tagged_digest created_id_of genesis_id_of address_of_name digest_of_object transaction_digest consumed_keys object_count lamport_version object_id address object_ref owner kind content object input argument command transaction signed signer statement sealed member_seal certificate entry status written effects digest_of_effects item checkpoint digest_of_checkpoint ran_item journal_record read_signed read_certificate read_entry cert_refusal weight_of total_of fits currency_sum shape_fault command_step outcome execution mode_of native_gives current admit entered passed_mark pending_on deferred_on assigned_of vote_answer hold_answer see_answer run_answer close_answer end_answer turn_answer ack_answer due checkpoint_behind built fork_of after state is_allowed replayed wants_of present ready round_of rounds_of_rounds left what_of with_entry saw seen seen_what map_of fold_one fold_all versions live live_list vote_refusal vote_origins delivered delivered_ends asked all_delivered all_formed all_transactions keyed_seal made_over opening_at acks_collected lines_over report world_after journal sums_of summary report_of setting_of votes_collected happens_over new_world stated reached_over called_over is_name is_digits value_from number_of number_in cut_at has_mark without_mark each_of is_place place_value is_arg arg_of native_of kind_of command_kind command_parts is_command command_of is_hex hex_of input_kind input_parts is_input input_of roles object_names currencies has_limit tx_names each_check setup_kind_check setup_check new_tx_check fvote_check ack_check event_check add_line member_number member_line coin_line counter_line cap_line writers_line after_inputs front_inputs block_form block_of tx_line member_and_tx member_alone member_and_number tx_and_members origins_of fvote_line order_tx order_end order_line stop_line raw_line ack_event ack_line member_event event_of statement_of is_object object_of is_ref ref_of is_shared read_line read_lines schedule_of
is_read = refl

few : FewFaulty (setting_of (keyed program_secret) the_schedule.setup)
unfolding setting_of weight_of total_of
few = omega arith

abbrev coin : ℕ → List ℕ → Object
coin n who = record { id = record { 0 = genesis_id_of n }; version = 1; owner = owner_as.Address (record { 0 = address_of_name who }); content = content_as.Coin 0 10000 }

-- a call that adds a number to the counter
abbrev adding : ℕ → List ℕ → ℕ → Transaction
adding n who amount = record {
  epoch = 0;
  sender = record { 0 = address_of_name who };
  gas = record { id = record { 0 = genesis_id_of n }; version = 1; digest = digest_of_object (coin n who) };
  budget = 2000;
  inputs = inputs_as.Pure (to_le_bytes w64 amount) ∷ inputs_as.Shared (record { 0 = genesis_id_of 2 }) 1 true ∷ [];
  commands = command_as.Call 5 (argument_as.Input 1 ∷ argument_as.Input 0 ∷ []) ∷ [];
}

abbrev both : List Transaction
both = adding 0 (codes "alice") 10 ∷ adding 1 (codes "bob") 1 ∷ []

are_made : IsAmong both (map (λ (t : Made). t.signed.tx) (world_after (setting_of (keyed program_secret) the_schedule.setup) the_schedule.events).txs)
unfolding digits sha256 digest_bytes hash_after compress rounds schedule first_words digest front_read number_spell number_read bool_spell bool_read bytes_spell bytes_read text_read seq_read seq_spell option_read option_spell uleb uleb_below whole tagged_digest created_id_of genesis_id_of address_of_name digest_of_object transaction_digest consumed_keys object_count lamport_version object_id address object_ref owner kind content object input argument command transaction signed signer statement sealed member_seal certificate entry status written effects digest_of_effects item checkpoint digest_of_checkpoint ran_item journal_record read_signed read_certificate read_entry cert_refusal weight_of total_of fits currency_sum shape_fault command_step outcome execution mode_of native_gives current admit entered passed_mark pending_on deferred_on assigned_of vote_answer hold_answer see_answer run_answer close_answer end_answer turn_answer ack_answer due checkpoint_behind built fork_of after state is_allowed replayed wants_of present ready round_of rounds_of_rounds left what_of with_entry saw seen seen_what map_of fold_one fold_all versions live live_list vote_refusal vote_origins delivered delivered_ends asked all_delivered all_formed all_transactions keyed_seal made_over opening_at acks_collected lines_over report world_after journal sums_of summary report_of setting_of votes_collected happens_over new_world stated reached_over called_over is_name is_digits value_from number_of number_in cut_at has_mark without_mark each_of is_place place_value is_arg arg_of native_of kind_of command_kind command_parts is_command command_of is_hex hex_of input_kind input_parts is_input input_of roles object_names currencies has_limit tx_names each_check setup_kind_check setup_check new_tx_check fvote_check ack_check event_check add_line member_number member_line coin_line counter_line cap_line writers_line after_inputs front_inputs block_form block_of tx_line member_and_tx member_alone member_and_number tx_and_members origins_of fvote_line order_tx order_end order_line stop_line raw_line ack_event ack_line member_event event_of statement_of is_object object_of is_ref ref_of is_shared read_line read_lines schedule_of
are_made = record { places = 0 ∷ 1 ∷ []; there = refl }

are_handed : IsAmong both (map (λ (x : SignedTx). x.tx) (all_of asked (setting_of (keyed program_secret) the_schedule.setup) the_schedule.events (new_world (setting_of (keyed program_secret) the_schedule.setup))))
unfolding digits sha256 digest_bytes hash_after compress rounds schedule first_words digest front_read number_spell number_read bool_spell bool_read bytes_spell bytes_read text_read seq_read seq_spell option_read option_spell uleb uleb_below whole tagged_digest created_id_of genesis_id_of address_of_name digest_of_object transaction_digest consumed_keys object_count lamport_version object_id address object_ref owner kind content object input argument command transaction signed signer statement sealed member_seal certificate entry status written effects digest_of_effects item checkpoint digest_of_checkpoint ran_item journal_record read_signed read_certificate read_entry cert_refusal weight_of total_of fits currency_sum shape_fault command_step outcome execution mode_of native_gives current admit entered passed_mark pending_on deferred_on assigned_of vote_answer hold_answer see_answer run_answer close_answer end_answer turn_answer ack_answer due checkpoint_behind built fork_of after state is_allowed replayed wants_of present ready round_of rounds_of_rounds left what_of with_entry saw seen seen_what map_of fold_one fold_all versions live live_list vote_refusal vote_origins delivered delivered_ends asked all_delivered all_formed all_transactions keyed_seal made_over opening_at acks_collected lines_over report world_after journal sums_of summary report_of setting_of votes_collected happens_over new_world stated reached_over called_over is_name is_digits value_from number_of number_in cut_at has_mark without_mark each_of is_place place_value is_arg arg_of native_of kind_of command_kind command_parts is_command command_of is_hex hex_of input_kind input_parts is_input input_of roles object_names currencies has_limit tx_names each_check setup_kind_check setup_check new_tx_check fvote_check ack_check event_check add_line member_number member_line coin_line counter_line cap_line writers_line after_inputs front_inputs block_form block_of tx_line member_and_tx member_alone member_and_number tx_and_members origins_of fvote_line order_tx order_end order_line stop_line raw_line ack_event ack_line member_event event_of statement_of is_object object_of is_ref ref_of is_shared read_line read_lines schedule_of
are_handed = record { places = 0 ∷ 0 ∷ 0 ∷ 1 ∷ 1 ∷ []; there = refl }

are_formed : IsAmong both (map (λ (c : Certificate). c.tx) (all_formed (setting_of (keyed program_secret) the_schedule.setup) the_schedule.events))
unfolding digits sha256 digest_bytes hash_after compress rounds schedule first_words digest front_read number_spell number_read bool_spell bool_read bytes_spell bytes_read text_read seq_read seq_spell option_read option_spell uleb uleb_below whole tagged_digest created_id_of genesis_id_of address_of_name digest_of_object transaction_digest consumed_keys object_count lamport_version object_id address object_ref owner kind content object input argument command transaction signed signer statement sealed member_seal certificate entry status written effects digest_of_effects item checkpoint digest_of_checkpoint ran_item journal_record read_signed read_certificate read_entry cert_refusal weight_of total_of fits currency_sum shape_fault command_step outcome execution mode_of native_gives current admit entered passed_mark pending_on deferred_on assigned_of vote_answer hold_answer see_answer run_answer close_answer end_answer turn_answer ack_answer due checkpoint_behind built fork_of after state is_allowed replayed wants_of present ready round_of rounds_of_rounds left what_of with_entry saw seen seen_what map_of fold_one fold_all versions live live_list vote_refusal vote_origins delivered delivered_ends asked all_delivered all_formed all_transactions keyed_seal made_over opening_at acks_collected lines_over report world_after journal sums_of summary report_of setting_of votes_collected happens_over new_world stated reached_over called_over is_name is_digits value_from number_of number_in cut_at has_mark without_mark each_of is_place place_value is_arg arg_of native_of kind_of command_kind command_parts is_command command_of is_hex hex_of input_kind input_parts is_input input_of roles object_names currencies has_limit tx_names each_check setup_kind_check setup_check new_tx_check fvote_check ack_check event_check add_line member_number member_line coin_line counter_line cap_line writers_line after_inputs front_inputs block_form block_of tx_line member_and_tx member_alone member_and_number tx_and_members origins_of fvote_line order_tx order_end order_line stop_line raw_line ack_event ack_line member_event event_of statement_of is_object object_of is_ref ref_of is_shared read_line read_lines schedule_of
are_formed = record { places = 0 ∷ 1 ∷ []; there = refl }

have_come : IsAmong both (map (λ (c : Certificate). c.tx) (all_delivered (setting_of (keyed program_secret) the_schedule.setup) the_schedule.events))
unfolding digits sha256 digest_bytes hash_after compress rounds schedule first_words digest front_read number_spell number_read bool_spell bool_read bytes_spell bytes_read text_read seq_read seq_spell option_read option_spell uleb uleb_below whole tagged_digest created_id_of genesis_id_of address_of_name digest_of_object transaction_digest consumed_keys object_count lamport_version object_id address object_ref owner kind content object input argument command transaction signed signer statement sealed member_seal certificate entry status written effects digest_of_effects item checkpoint digest_of_checkpoint ran_item journal_record read_signed read_certificate read_entry cert_refusal weight_of total_of fits currency_sum shape_fault command_step outcome execution mode_of native_gives current admit entered passed_mark pending_on deferred_on assigned_of vote_answer hold_answer see_answer run_answer close_answer end_answer turn_answer ack_answer due checkpoint_behind built fork_of after state is_allowed replayed wants_of present ready round_of rounds_of_rounds left what_of with_entry saw seen seen_what map_of fold_one fold_all versions live live_list vote_refusal vote_origins delivered delivered_ends asked all_delivered all_formed all_transactions keyed_seal made_over opening_at acks_collected lines_over report world_after journal sums_of summary report_of setting_of votes_collected happens_over new_world stated reached_over called_over is_name is_digits value_from number_of number_in cut_at has_mark without_mark each_of is_place place_value is_arg arg_of native_of kind_of command_kind command_parts is_command command_of is_hex hex_of input_kind input_parts is_input input_of roles object_names currencies has_limit tx_names each_check setup_kind_check setup_check new_tx_check fvote_check ack_check event_check add_line member_number member_line coin_line counter_line cap_line writers_line after_inputs front_inputs block_form block_of tx_line member_and_tx member_alone member_and_number tx_and_members origins_of fvote_line order_tx order_end order_line stop_line raw_line ack_event ack_line member_event event_of statement_of is_object object_of is_ref ref_of is_shared read_line read_lines schedule_of
have_come = record { places = 0 ∷ 1 ∷ []; there = refl }

digests_differ : repeats digest_eq (map transaction_digest both) ≡ false
unfolding digits sha256 digest_bytes hash_after compress rounds schedule first_words digest front_read number_spell number_read bool_spell bool_read bytes_spell bytes_read text_read seq_read seq_spell option_read option_spell uleb uleb_below whole tagged_digest created_id_of genesis_id_of address_of_name digest_of_object transaction_digest consumed_keys object_count lamport_version object_id address object_ref owner kind content object input argument command transaction signed signer statement sealed member_seal certificate entry status written effects digest_of_effects item checkpoint digest_of_checkpoint ran_item journal_record read_signed read_certificate read_entry cert_refusal weight_of total_of fits currency_sum shape_fault command_step outcome execution mode_of native_gives current admit entered passed_mark pending_on deferred_on assigned_of vote_answer hold_answer see_answer run_answer close_answer end_answer turn_answer ack_answer due checkpoint_behind built fork_of after state is_allowed replayed wants_of present ready round_of rounds_of_rounds left what_of with_entry saw seen seen_what map_of fold_one fold_all versions live live_list vote_refusal vote_origins delivered delivered_ends asked all_delivered all_formed all_transactions keyed_seal made_over opening_at acks_collected lines_over report world_after journal sums_of summary report_of setting_of votes_collected happens_over new_world stated reached_over called_over is_name is_digits value_from number_of number_in cut_at has_mark without_mark each_of is_place place_value is_arg arg_of native_of kind_of command_kind command_parts is_command command_of is_hex hex_of input_kind input_parts is_input input_of roles object_names currencies has_limit tx_names each_check setup_kind_check setup_check new_tx_check fvote_check ack_check event_check add_line member_number member_line coin_line counter_line cap_line writers_line after_inputs front_inputs block_form block_of tx_line member_and_tx member_alone member_and_number tx_and_members origins_of fvote_line order_tx order_end order_line stop_line raw_line ack_event ack_line member_event event_of statement_of is_object object_of is_ref ref_of is_shared read_line read_lines schedule_of
digests_differ = refl

ids_differ : repeats id_eq (map created_id (flat_map numbered both) ++ map opened_id (setting_of (keyed program_secret) the_schedule.setup).opening) ≡ false
unfolding digits sha256 digest_bytes hash_after compress rounds schedule first_words digest front_read number_spell number_read bool_spell bool_read bytes_spell bytes_read text_read seq_read seq_spell option_read option_spell uleb uleb_below whole tagged_digest created_id_of genesis_id_of address_of_name digest_of_object transaction_digest consumed_keys object_count lamport_version object_id address object_ref owner kind content object input argument command transaction signed signer statement sealed member_seal certificate entry status written effects digest_of_effects item checkpoint digest_of_checkpoint ran_item journal_record read_signed read_certificate read_entry cert_refusal weight_of total_of fits currency_sum shape_fault command_step outcome execution mode_of native_gives current admit entered passed_mark pending_on deferred_on assigned_of vote_answer hold_answer see_answer run_answer close_answer end_answer turn_answer ack_answer due checkpoint_behind built fork_of after state is_allowed replayed wants_of present ready round_of rounds_of_rounds left what_of with_entry saw seen seen_what map_of fold_one fold_all versions live live_list vote_refusal vote_origins delivered delivered_ends asked all_delivered all_formed all_transactions keyed_seal made_over opening_at acks_collected lines_over report world_after journal sums_of summary report_of setting_of votes_collected happens_over new_world stated reached_over called_over is_name is_digits value_from number_of number_in cut_at has_mark without_mark each_of is_place place_value is_arg arg_of native_of kind_of command_kind command_parts is_command command_of is_hex hex_of input_kind input_parts is_input input_of roles object_names currencies has_limit tx_names each_check setup_kind_check setup_check new_tx_check fvote_check ack_check event_check add_line member_number member_line coin_line counter_line cap_line writers_line after_inputs front_inputs block_form block_of tx_line member_and_tx member_alone member_and_number tx_and_members origins_of fvote_line order_tx order_end order_line stop_line raw_line ack_event ack_line member_event event_of statement_of is_object object_of is_ref ref_of is_shared read_line read_lines schedule_of
ids_differ = refl

computed : IsComputed (setting_of (keyed program_secret) the_schedule.setup) the_schedule.events
computed = record { known = both; made = are_made; handed = are_handed; formed = are_formed; came = have_come; digests = digests_differ; ids = ids_differ }

is_reported : report_of (keyed program_secret) the_schedule ≡ report_is
unfolding digits sha256 digest_bytes hash_after compress rounds schedule first_words digest front_read number_spell number_read bool_spell bool_read bytes_spell bytes_read text_read seq_read seq_spell option_read option_spell uleb uleb_below whole tagged_digest created_id_of genesis_id_of address_of_name digest_of_object transaction_digest consumed_keys object_count lamport_version object_id address object_ref owner kind content object input argument command transaction signed signer statement sealed member_seal certificate entry status written effects digest_of_effects item checkpoint digest_of_checkpoint ran_item journal_record read_signed read_certificate read_entry cert_refusal weight_of total_of fits currency_sum shape_fault command_step outcome execution mode_of native_gives current admit entered passed_mark pending_on deferred_on assigned_of vote_answer hold_answer see_answer run_answer close_answer end_answer turn_answer ack_answer due checkpoint_behind built fork_of after state is_allowed replayed wants_of present ready round_of rounds_of_rounds left what_of with_entry saw seen seen_what map_of fold_one fold_all versions live live_list vote_refusal vote_origins delivered delivered_ends asked all_delivered all_formed all_transactions keyed_seal made_over opening_at acks_collected lines_over report world_after journal sums_of summary report_of setting_of votes_collected happens_over new_world stated reached_over called_over is_name is_digits value_from number_of number_in cut_at has_mark without_mark each_of is_place place_value is_arg arg_of native_of kind_of command_kind command_parts is_command command_of is_hex hex_of input_kind input_parts is_input input_of roles object_names currencies has_limit tx_names each_check setup_kind_check setup_check new_tx_check fvote_check ack_check event_check add_line member_number member_line coin_line counter_line cap_line writers_line after_inputs front_inputs block_form block_of tx_line member_and_tx member_alone member_and_number tx_and_members origins_of fvote_line order_tx order_end order_line stop_line raw_line ack_event ack_line member_event event_of statement_of is_object object_of is_ref ref_of is_shared read_line read_lines schedule_of
is_reported = refl

pub returns : goal.returns
returns c = record {
  schedule = the_schedule;
  read = is_read;
  honest = meets-all (text_of lines) the_schedule is_read (refl, (refl, (refl, (refl, (refl, (refl, (refl, (refl, (refl, (refl, (refl, (refl, (refl, (refl, (refl, tt))))))))))))))) few computed;
  reported = is_reported;
}
