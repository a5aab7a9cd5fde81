-- The promises, each by its law.
use Rattle.std.specs.Prelude.{Ok, Err, Option}
use mathlib.Core.List.{List}
use mathlib.Core.Path.{◌≡◌}
use Prim.Native.Nat.{◌-◌, ◌^◌, ◌≤◌, ℕ}
use lib.ListN.{drop, take}
use mathlib.Core.Bool.{Bool}
use Rattle.laws.proofs.Numbers.{numbered-back}
use Rattle.laws.proofs.Out.{holds-done}
use Rattle.laws.specs.Puts.{Bytes}
use Rattle.laws.specs.declared.Item.TheVariants.{Record, Entry}
use Rattle.laws.specs.declared.Refusal.{Refusal}
use Rattle.laws.specs.Pick.{pick}
use Rattle.numbers.proofs.Number.{read-shortest, round_trip}
use Rattle.numbers.specs.Number.{number_bytes, read_number}
use Rattle.image.specs.Sound.{SizeSound}
use Rattle.figures.proofs.Bound.{fill-within}
use Rattle.figures.specs.Figure.{AllWithin, figures_of}
use Rattle.fill.specs.Fill.{fill_of}
use Rattle.fill.specs.declared.Nclx.{Nclx}
use Rattle.fill.specs.declared.Ycbcr.{Ycbcr}
use Rattle.derived.proofs.OffsetLaws.{offset-is}
use Rattle.bodies.proofs.AgainLaws.{grid-rewritten, overlay-rewritten, words-there}
use Rattle.bodies.proofs.BackLaws.{grid-back, words_back}
use Rattle.sizes.proofs.ApertureLaws.{resolve-exact, resolve-margins, resolve-taken}
use Rattle.sizes.proofs.MarginLaws.{around-between, between-around}
use Rattle.props.proofs.SizeLaws.{chain-sound}
use Rattle.sizes.proofs.ScaleLaws.{scaled-covers, scaled-least}
use Rattle.planes.specs.Picture.{Pic}
use Rattle.props.specs.declared.entry.PropertyEntry.{PropertyEntry}
use Rattle.props.specs.Chain.{applies, fold_chain}
use Rattle.transform.proofs.Runs.{clap-crops, crop-around, crop-refused}
use Rattle.sight.proofs.Agreement.{covers-some}
use Rattle.steps_text.proofs.Cases.{example}
use Rattle.steps_text.proofs.TextLaws.{text-fits, text-prefix}
use Rattle.sentence.proofs.Cases.{examples}
use Rattle.sentence.proofs.RunLaws.{sentence-fits, sentence-known}
use Rattle.sentence.proofs.Back.{sentence-back}
use Rattle.sampling.proofs.DepthLaws.{level-mono, level-top, level-zero}
use Rattle.sampling.proofs.MeanLaws.{area-constant, weights-whole}
use Rattle.sampling.proofs.SameLaws.{area_same, nearest-same, rescaled-same}
use Rattle.sampling.specs.Depth.{level_of}
use Rattle.items.proofs.ItemLaws.{chain-item, entry-item, first-named, tile_item, tray-item}
use Rattle.items.specs.Items.{OwnStep}
use Rattle.overlay.proofs.Sentences.{composed-settled, composed-uncovered}
use Rattle.sight.specs.Sight.{sight_after, sight_of, whole}
use Rattle.sequence.proofs.CallLaws.{blank-before-alpha, blank-leaves, blank-over, calls-leave, other-cell, place-leaves, place-over}
use Rattle.sequence.proofs.ComposeLaws.{any-order-composes}
use Rattle.sequence.proofs.MadeLaws.{made_ok, ok-made}
use Rattle.cases.proofs.Holds.{table-holds}
use Rattle.words.proofs.CanvasLaws.{canvas-words, words_small}
use Rattle.stages.specs.Chain.{chain_drawn, drawn_after, first_drawn}
use Rattle.promises.proofs.BeforeLaws.{crop-before}
use Rattle.promises.proofs.DemandLaws.{grid-demand, overlay-demand}
use Rattle.promises.specs.Promises.{Promises}

shortest : (s : List ℕ) (at v next : ℕ) → Bytes s → read_number s at ≡ Ok (v, next) → take (next - at) (drop at s) ≡ number_bytes v
unfolding Bytes
shortest = read-shortest

depth-top : (old new : ℕ) → 8 ≤ old → old ≤ 16 → level_of old new (2 ^ old - 1) ≡ 2 ^ new - 1
depth-top = level-top

fill-figures : (red green blue depth : ℕ) (colour : Option Nclx) (s : Ycbcr) → red ≤ 65535 → green ≤ 65535 → blue ≤ 65535 → fill_of red green blue depth colour ≡ Ok s
    → AllWithin s (2 ^ depth - 1) (figures_of red green blue depth colour)
fill-figures red green blue depth colour s r g b e = holds-done _ _ s (fill-within red green blue depth colour r g b) e

drawn-names : (es : List PropertyEntry) (flag : Bool) (P : Pic) (r : Refusal) → chain_drawn es flag P ≡ Err r
    → OwnStep (fold_chain drawn_after flag) (λ e d. pick (applies flag e) (drawn_after e.property d) (Ok d)) Entry es (first_drawn P) r
unfolding chain_drawn
drawn-names es flag P r e = entry-item drawn_after flag es (first_drawn P) r e

sight-names : (es : List PropertyEntry) (flag : Bool) (w h : ℕ) (r : Refusal) → sight_of es flag w h ≡ Err r
    → OwnStep (fold_chain sight_after flag) (λ e s. pick (applies flag e) (sight_after e.property s) (Ok s)) Entry es (whole w h) r
unfolding sight_of
sight-names es flag w h r e = entry-item sight_after flag es (whole w h) r e

pub kept : Promises
kept = record {
  house_number_read_back = round_trip;
  house_number_shortest = shortest;
  offset_split = offset-is;
  grid_body_read_back = grid-back;
  overlay_body_read_back = words_back;
  grid_body_rewritten = grid-rewritten;
  overlay_body_rewritten = overlay-rewritten;
  overlay_body_words = words-there;
  clap_taken = resolve-taken;
  clap_exact = resolve-exact;
  clap_margins = resolve-margins;
  margins_there = between-around;
  margins_alone = around-between;
  crop_taken = crop-around;
  crop_refused = crop-refused;
  crop_before = crop-before;
  clap_crops = clap-crops;
  iscl_covers = scaled-covers;
  iscl_least = scaled-least;
  chain_within = λ flag es z y s e. holds-done SizeSound _ y (chain-sound flag es z s) e;
  refusal_numbers = numbered-back;
  tray_names = tray-item;
  tile_names = tile_item;
  input_names = λ test n inputs r e. first-named test Record n inputs inputs r e;
  chain_names = chain-item;
  drawn_names = drawn-names;
  sight_names = sight-names;
  sentence_examples = examples;
  sentence_there = sentence-fits;
  sentence_known = sentence-known;
  sentence_read_back = sentence-back;
  steps_example = example;
  steps_prefix = text-prefix;
  steps_fit = text-fits;
  area_weights = weights-whole;
  area_constant = area-constant;
  area_unchanged = area_same;
  nearest_unchanged = nearest-same;
  depth_unchanged = rescaled-same;
  depth_zero = level-zero;
  depth_top = depth-top;
  depth_rises = level-mono;
  fill_figures = fill-figures;
  overlay_uncovered = composed-uncovered;
  overlay_settled = composed-settled;
  session_composes = any-order-composes;
  session_leaves = calls-leave;
  session_places = place-over;
  session_keeps_alpha = place-leaves;
  session_other_cell = other-cell;
  session_blanks = blank-over;
  session_blank_alpha = blank-leaves;
  session_blank_first = blank-before-alpha;
  states_taken = made_ok;
  states_made = ok-made;
  state_read_back = canvas-words;
  state_small = words_small;
  cases = table-holds;
  grid_demand = grid-demand;
  overlay_demand = overlay-demand;
  sample_covers = covers-some;
}
