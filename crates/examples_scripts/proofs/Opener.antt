-- What a worked script unfolds to compute.
use Rattle.std.specs.Prelude.{⊤}
use Rattle.std.specs.Fmt.{digits}
use Rattle.uuid.specs.Text.{by_index}
use Rattle.sm_base.specs.Names.{uuid_text, spelling, name_cmp, base_uuid, is_base}
use Rattle.sm_base.specs.Numbers.{div_up, first, thin, thick}
use Rattle.common_laws.specs.Lists.{insert_by, numbers}
use Rattle.sm_log.specs.Coded.{base64, packed}
use Rattle.sm_log.specs.Logs.{changed, either, log_extents, marked, united, walk, with_log}
use Rattle.sm_machine.specs.Lines.{lines, words, number_of, uuid_of, label_of, hex_bytes, sectors_of, byte_of, is_raw_of, is_on_of, mode_of, after_cbt, after_create, after_disk, after_twin, after_attach, after_resize, after_label, after_write, after_fill, after_read, alone, spelled_words, spelled}
use Rattle.sm_machine.specs.Replies.{hex_text, disk_text, image_text, op_text, plan_parts, refusal_parts, stat_parts, reply_parts, printed}
use Rattle.sm_machine.specs.Disks.{cut_sectors, overwritten, bytes_at, with_disk}
use Rattle.sm_machine.specs.Shapes.{same_image, image_uuid, is_vhd, renamed, count_blocks, top, with_image, children, chain, refs, image_extents, free}
use Rattle.sm_machine.specs.Refusals.{named, new_uuid, rounded, is_reserved, is_unknown, is_taken, is_in_use, is_not_attached, is_read_only, is_raw_disk, is_tracked, is_untracked, is_out_of_range, is_bad_size, is_shrink, forked, is_deep, images_needed, is_too_many, is_spent, log_need, need, lacks_space, refusal}
use Rattle.sm_machine.specs.Collector.{least_free, with_block, next_block, count_either, target, pair_of, leaf_of, live_of, given_blocks, least_growth, plan_idle, plan_running, next_step, copied, turned, linked, swapped, collected}
use Rattle.sm_machine.specs.Operations.{told, with_dirty, without_dirty, dirtied}
use Rattle.sm_machine.specs.Commits.{folds, gives_up, is_given_up, plan_commits, own_commits, commits}
use Rattle.sm_machine.specs.Steps.{with_record, with_blocks, written_op, shape_after, shape_next, disks_next, reply_to, accepted}
use Rattle.sm_machine.specs.Tracking.{logs_after, log_commits, tracked_step, step_line}
use Rattle.sm_machine.specs.Runs.{taken, after_run, replies, is_accepted, is_settling, settles, trail_after}

unfoldable pub opener : ⊤
unfolding digits by_index uuid_text spelling name_cmp base_uuid is_base div_up first thin thick insert_by numbers lines words number_of uuid_of label_of hex_bytes sectors_of byte_of is_raw_of is_on_of mode_of after_cbt after_create after_disk after_twin after_attach after_resize after_label after_write after_fill after_read alone spelled_words spelled hex_text disk_text image_text op_text plan_parts refusal_parts stat_parts reply_parts printed cut_sectors overwritten bytes_at with_disk same_image image_uuid is_vhd renamed count_blocks top with_image children chain refs image_extents free named new_uuid rounded is_reserved is_unknown is_taken is_in_use is_not_attached is_read_only is_raw_disk is_tracked is_untracked is_out_of_range is_bad_size is_shrink forked is_deep images_needed is_too_many is_spent log_need need lacks_space refusal least_free with_block next_block count_either target pair_of leaf_of live_of given_blocks told with_dirty without_dirty dirtied written_op least_growth plan_idle plan_running next_step copied turned linked swapped collected folds gives_up is_given_up plan_commits own_commits commits with_record with_blocks shape_after shape_next disks_next reply_to accepted logs_after log_commits tracked_step step_line log_extents marked either with_log walk united changed packed base64 taken after_run replies is_accepted is_settling settles trail_after
opener = tt
