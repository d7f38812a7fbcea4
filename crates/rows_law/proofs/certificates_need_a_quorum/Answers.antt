use Rattle.std.proofs.Common.{refl}
use Rattle.std.specs.Fmt.{digits}
use Rattle.sha2.specs.Sha256.{sha256, digest_bytes, hash_after, compress, rounds, schedule, first_words}
use Rattle.wire_bcs.specs.Digests.{digest}
use Rattle.wire_bcs.specs.Items.{front_read, number_spell, number_read, bool_spell, bool_read, bytes_spell, bytes_read, text_read}
use Rattle.wire_bcs.specs.Shapes.{seq_read, seq_spell, option_read, option_spell}
use Rattle.wire_bcs.specs.Uleb.{uleb, uleb_below}
use Rattle.wire_bcs.specs.Whole.{whole}
use Rattle.digest_core.specs.Tagged.{tagged_digest, created_id_of, genesis_id_of, address_of_name}
use Rattle.chain_types.specs.Digests.{digest_of_object, transaction_digest, consumed_keys, object_count, lamport_version}
use Rattle.chain_types.specs.Objects.{object_id, address, object_ref, owner, kind, content, object}
use Rattle.chain_types.specs.Transactions.{input, argument, command, transaction, signed}
use Rattle.quorum_core.specs.Signers.{signer}
use Rattle.chain_messages.specs.Messages.{statement, sealed, member_seal, certificate, entry}
use Rattle.effects_core.specs.Effects.{status, written, effects, digest_of_effects}
use Rattle.checkpoint_core.specs.Checkpoints.{item, checkpoint, digest_of_checkpoint}
use Rattle.journal_core.specs.Records.{ran_item, journal_record}
use Rattle.protocol_spec.specs.Chain.Certificates.{read_signed, read_certificate, read_entry, cert_refusal}
use Rattle.protocol_spec.specs.Chain.Committee.{weight_of, total_of}
use Rattle.protocol_spec.specs.Chain.Keys.{fits, currency_sum}
use Rattle.protocol_spec.specs.Chain.Shape.{shape_fault}
use Rattle.protocol_spec.specs.Block.Commands.{command_step}
use Rattle.protocol_spec.specs.Block.Execution.{outcome, execution}
use Rattle.protocol_spec.specs.Block.Natives.{mode_of, native_gives}
use Rattle.protocol_spec.specs.Member.Admission.{current, admit, entered, passed_mark, pending_on, deferred_on, assigned_of}
use Rattle.protocol_spec.specs.Member.Calls.{vote_answer, hold_answer, see_answer, run_answer, close_answer, end_answer, turn_answer, ack_answer, due}
use Rattle.protocol_spec.specs.Member.Checkpoints.{checkpoint_behind}
use Rattle.protocol_spec.specs.Member.Member.{built, fork_of, after, state}
use Rattle.protocol_spec.specs.Member.Replay.{is_allowed, replayed}
use Rattle.protocol_spec.specs.Member.Rounds.{wants_of, present, ready, round_of, rounds as rounds_of_rounds, left}
use Rattle.protocol_spec.specs.Member.Sequence.{what_of, with_entry, saw, seen, seen_what}
use Rattle.protocol_spec.specs.Member.Sequential.{map_of, fold_one, fold_all}
use Rattle.protocol_spec.specs.Member.Versions.{versions, live, live_list}
use Rattle.protocol_spec.specs.Member.Votes.{vote_refusal, vote_origins}
use Rattle.world_spec.specs.Assumptions.{delivered, delivered_ends, asked, all_delivered, all_formed, all_transactions}
use Rattle.world_spec.specs.Keyed.{keyed_seal}
use Rattle.world_spec.specs.Making.{made_over}
use Rattle.world_spec.specs.Openings.{opening_at}
use Rattle.world_spec.specs.Report.{acks_collected, lines_over}
use Rattle.world_spec.specs.Run.{report, world_after, journal, sums_of, summary, report_of}
use Rattle.world_spec.specs.Setting.{setting_of}
use Rattle.world_spec.specs.Step.{votes_collected, happens_over}
use Rattle.world_spec.specs.World.{new_world, stated, reached_over, called_over}
use Rattle.rows_law.proofs.certificates_need_a_quorum.Goals as goal

pub returns : goal.returns
unfolding digits sha256 digest_bytes hash_after compress rounds schedule first_words digest front_read number_spell number_read bool_spell bool_read bytes_spell bytes_read text_read seq_read seq_spell option_read option_spell uleb uleb_below whole tagged_digest created_id_of genesis_id_of address_of_name digest_of_object transaction_digest consumed_keys object_count lamport_version object_id address object_ref owner kind content object input argument command transaction signed signer statement sealed member_seal certificate entry status written effects digest_of_effects item checkpoint digest_of_checkpoint ran_item journal_record read_signed read_certificate read_entry cert_refusal weight_of total_of fits currency_sum shape_fault command_step outcome execution mode_of native_gives current admit entered passed_mark pending_on deferred_on assigned_of vote_answer hold_answer see_answer run_answer close_answer end_answer turn_answer ack_answer due checkpoint_behind built fork_of after state is_allowed replayed wants_of present ready round_of rounds_of_rounds left what_of with_entry saw seen seen_what map_of fold_one fold_all versions live live_list vote_refusal vote_origins delivered delivered_ends asked all_delivered all_formed all_transactions keyed_seal made_over opening_at acks_collected lines_over report world_after journal sums_of summary report_of setting_of votes_collected happens_over new_world stated reached_over called_over
returns c = record { members = refl; stakes = refl; exactly_two_thirds = refl; origins = refl }
