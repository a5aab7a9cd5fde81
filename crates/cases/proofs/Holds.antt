-- The table of document 01's starred cases holds: one equation, computed.
use mathlib.Core.Path.{refl}
use lib.Ieee.{add, div, mul, of_int, round, sub}
use Rattle.laws.specs.Any.{any, any_below, first_at}
use Rattle.laws.specs.Out.{about, after, and_then, fitted, refuse, refuse_item}
use Rattle.laws.specs.Pick.{pick}
use Rattle.laws.specs.Span.{run, span}
use Rattle.numbers.specs.Field.{big_endian, field_at, offset_of, on_field, signed_of}
use Rattle.numbers.specs.Number.{groups, last_byte, number_bytes, on_number, read_from, read_number}
use Rattle.image.specs.Format.{bytes_of, columns_of, cover, form_of, format_of, halved, halves_x, halves_y, has_alpha, has_part, is_depth, is_mono, judged_size, middle_of, needs444, odd, row_size, rows_of, side_of, sized, top_of, has_size, with_alpha}
use Rattle.records.specs.Record.{data_of, head_at, head_of, part_at, past, plane_at, plane_of, planes_at, record_at, record_of}
use Rattle.records.specs.Tray.{frames_at, taken_of}
use Rattle.planes.specs.Bytes.{decode, encode, head_bytes, picture_in, plane_bytes, plane_head, row_bytes, rows_bytes, sample_at, sample_bytes, sample_in, samples_of}
use Rattle.planes.specs.Picture.{ensure, full, pixel}
use Rattle.fill.specs.Fill.{fill_alpha_of, full_of, luma_of, nclx_of, part_of, table_of, weighted_of, weights_of, ycbcr_of}
use Rattle.fill.specs.Rounded.{whole_of}
use Rattle.derived.specs.Canvas.{canvas_at, field_bytes, start_of}
use Rattle.derived.specs.Grid.{grid_at, grid_of}
use Rattle.derived.specs.Overlay.{fill_at, horizontal_at, inputs_of, offset_place, overlay_of, placement_at, signed_at, vertical_at}
use Rattle.sizes.specs.Aperture.{axis_of, edge_of, resolve_of}
use Rattle.props.specs.Chain.{applies, chain_at, count_at, entries_at, fold_chain}
use Rattle.props.specs.Entry.{byte_at, entry_at, irot_at, property_at}
use Rattle.sizes.specs.Scale.{changed, scale_of, scaled_side, within_of}
use Rattle.motions.specs.Chain.{pic_after}
use Rattle.motions.specs.Place.{sideways, swaps, unturn}
use Rattle.motions.specs.Turn.{from_bottom, from_right, lopsided, quarter_of, turn, turned}
use Rattle.sight.specs.Sight.{back, back_from, exchange, final_height, final_width, high_of, source_place, sight_after, sight_of, then_turn, whole, wide_of}
use Rattle.sampling.specs.Area.{area, area_mean, around_of, first_of, foot_of, past_of, share_of, sum, weighed, weight_of}
use Rattle.sampling.specs.Depth.{level_of, rescaled, to_depth}
use Rattle.sampling.specs.Rounded.{rounded}
use Rattle.resample.specs.Run.{area_bytes, depth_bytes, depth_run, iscl_run}
use Rattle.cells.specs.Cell.{tile_form, tile_pic}
use Rattle.grid.specs.Mosaic.{grid_pic, mosaic_at, opaque_at, tile_index}
use Rattle.grid.specs.Run.{frames_in, grid_on}
use Rattle.tiles.specs.Tiles.{alike_from, canvas_form, count_of, held_to, spans_canvas, judge_of, promotes_of, same_layout, tiles_at}
use Rattle.blend.specs.Overlay.{over_all, alpha_of, base, covers, covers_at, backdrop, over, over_at, overlay_pic, over_colour, place_at, sample_of, unpremultiply, final_sample, spot_at, over_alpha}
use Rattle.inputs.specs.Layers.{odd_across_of, odd_down_of, odd_offset, other_chroma_of, overlay_form, promotes, see_through, layer_of, layers_of}
use Rattle.inputs.specs.Inputs.{alpha_above, composed_form, first_form, inputs_at, other_depth_of}
use Rattle.overlay.specs.Run.{composed, fill_for, fill_part}
use Rattle.stages.specs.Chain.{first_drawn, chain_drawn, drawn_after}
use Rattle.scene_room.specs.Scene.{grid_drawn, grid_scene, overlay_drawn, overlay_scene, room_for}
use Rattle.point.specs.Point.{grid_look, grid_names, grid_point, look_on, point_from}
use Rattle.cases.specs.Table.{AllHold, area_row, body, clap_edge, depth8, gives, irot1, iscl_width, joined, mono, no_entry, over_black, spot_in, spot_of, table, tiles}

pub table-holds : AllHold table
unfolding add div mul of_int round sub about after and_then first_at fitted held_to refuse refuse_item pick run span big_endian field_at offset_of on_field signed_of groups last_byte number_bytes
    on_number read_from read_number data_of decode encode head_bytes plane_bytes plane_head row_bytes rows_bytes sample_at sample_bytes sample_in samples_of
    bytes_of columns_of cover form_of format_of is_depth judged_size halved halves_x halves_y has_alpha has_part is_mono middle_of row_size rows_of side_of
    top_of ensure full needs444 odd pixel sized head_at head_of part_at past plane_at plane_of planes_at record_at record_of frames_at fill_alpha_of full_of
    luma_of nclx_of part_of table_of weighted_of weights_of ycbcr_of whole_of canvas_at field_bytes start_of grid_at grid_of fill_at horizontal_at inputs_of
    offset_place overlay_of placement_at signed_at vertical_at axis_of edge_of resolve_of applies chain_at count_at entries_at fold_chain byte_at entry_at
    irot_at property_at changed scale_of scaled_side within_of sideways swaps unturn from_bottom from_right lopsided quarter_of turn turned pic_after
    back back_from exchange final_height final_width high_of source_place sight_after sight_of then_turn whole wide_of area area_mean around_of first_of
    foot_of past_of share_of sum weighed weight_of level_of rescaled to_depth has_size rounded area_bytes depth_bytes depth_run iscl_run tile_form tile_pic
    grid_pic mosaic_at opaque_at tile_index frames_in grid_on taken_of picture_in alike_from canvas_form count_of spans_canvas judge_of promotes_of same_layout
    tiles_at with_alpha over_all alpha_of base covers covers_at backdrop over over_at odd_across_of odd_down_of odd_offset other_chroma_of overlay_form overlay_pic
    over_colour place_at promotes sample_of see_through unpremultiply final_sample any spot_at over_alpha alpha_above composed composed_form fill_for
    fill_part first_form inputs_at layer_of layers_of other_depth_of any_below first_drawn chain_drawn drawn_after grid_drawn grid_scene overlay_drawn
    overlay_scene room_for grid_look grid_names grid_point look_on point_from area_row body clap_edge depth8 gives irot1 iscl_width joined mono no_entry
    over_black spot_in spot_of table tiles
table-holds = refl
