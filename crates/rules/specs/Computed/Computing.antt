-- `unfolding computing` opens every definition between a circuit's text and its answer.
use mathlib.Core.List.{zip_with, flat_map}
use Rattle.laws.specs.Gcd
use Rattle.laws.specs.Integer
use Rattle.laws.specs.Over
use Rattle.laws.specs.Select
use Rattle.laws.specs.Tabulate
use Rattle.laws.specs.Test
use Rattle.rules.specs.Admission
use Rattle.rules.specs.Builder
use Rattle.rules.specs.Circuit
use Rattle.rules.specs.CircuitText
use Rattle.rules.specs.Composition
use Rattle.rules.specs.Computed.Case
use Rattle.rules.specs.Cone
use Rattle.rules.specs.Converter
use Rattle.rules.specs.Edition2
use Rattle.rules.specs.Form
use Rattle.rules.specs.Grades
use Rattle.rules.specs.Mapper
use Rattle.rules.specs.Network
use Rattle.rules.specs.NetworkText
use Rattle.rules.specs.Regroup
use Rattle.rules.specs.Rotation
use Rattle.rules.specs.Scale
use Rattle.rules.specs.Span
use Rattle.rules.specs.Store
use Rattle.rules.specs.SumReading
use Rattle.rules.specs.Workers
use Rattle.rules.specs.Writing

-- from a text to a circuit
unfoldable pub reading : Unit {0}
unfolding Form.before Form.lines Form.onward Form.either Form.only Form.gather Form.up_to Form.exactly Form.run Form.run_of Form.judged Form.on_line Form.read_lines Form.is_name_byte Form.is_name Form.name Form.is_digit Form.is_number Form.value_from Form.number Form.is_bit_byte Form.is_bits Form.bits_from Form.bits Form.wire Form.up_to4096 Form.norm Form.from2_to64 Form.weight Form.in_line Form.out_line CircuitText.policy CircuitText.tables CircuitText.fbs_line CircuitText.gate_line CircuitText.circuit_line CircuitText.in_limits CircuitText.some? CircuitText.same_name CircuitText.listed CircuitText.node_count CircuitText.no_node CircuitText.any_no_node CircuitText.matching Circuit.given_names CircuitText.conditions CircuitText.with_line CircuitText.with_settings CircuitText.ended CircuitText.nothing CircuitText.read_circuit
reading = tt

-- values, scale pairs and tables
unfoldable pub tables : Unit {0}
unfolding Test.allb Gcd.gcd_within Gcd.gcd Tabulate.tabulate Span.least_from Span.greatest_from Span.least Span.greatest Span.span Scale.gcd_from Scale.starts_negative Scale.divisor Scale.quotients Scale.normalised Scale.is_scale_pair Rotation.pair_sum Rotation.same_sum Rotation.centre Rotation.rotatable Builder.agrees Builder.enter Builder.known_entries Builder.known_or Builder.filled Builder.against Builder.opposed_at Builder.opposed Builder.completion Builder.last_tried Builder.table_limits
tables = tt

-- cones and the store
unfoldable pub cones : Unit {0}
unfolding zip_with Select.select Select.any Select.all Integer.eq_z Network.node_at Network.weight_of Network.norm Network.node_norm Network.largest Network.boot_sources Network.member NetworkText.sources NetworkText.over Cone.constant Cone.identity Cone.row_from Cone.cone_bit Cone.linear_table Cone.values Cone.cone_span Cone.terms Cone.norm2 Cone.energy Cone.completed Cone.encoding Cone.bootstrap_table Cone.is_lut_valid Cone.within_norm Cone.fits Cone.validate_cone Cone.less Cone.better Cone.best_from Cone.best Cone.cone_order_key Store.same_terms Store.same_node Store.number_of Store.intern Store.is_used Store.insert Store.sorted Store.linear_terms Store.linear_of Store.coefficient_of Store.bootstrap_inputs Store.has_bootstrap Store.terms_of Store.same_sources Store.bootstrap_forms Store.with_form Store.ranked Store.cone_or Store.realigned Store.bootstrapped Store.bootstrap_cone Store.needs Store.wire_needs Store.output_needs Store.wanted_below Store.live Store.renumbered Store.renumbered_term Store.renumbered_node Store.renumbered_wire Store.renumbered_output Store.kept_from
cones = tt

-- gates and outputs
unfoldable pub gates : Unit {0}
unfolding flat_map Composition.union_support Composition.assignments Composition.assigned Composition.over_rows Composition.gate_truth Composition.all_equal Composition.scales Composition.scale_pairs Composition.tried_pairs Composition.merged_coefficients Composition.reuse_cost Composition.score Composition.evaluate Composition.find_candidate Composition.simplify_cone Composition.merge_cones Composition.compose Mapper.unchanged Mapper.map_unary_gate Mapper.sides Mapper.switch_inputs Mapper.bootstrap_left Mapper.bootstrap_right Mapper.larger_first Mapper.over_limit Mapper.limit_second Mapper.limit_sources Mapper.attempt Mapper.update Mapper.mapped Mapper.or_else Mapper.third_attempt Mapper.second_attempt Mapper.map_binary_gate Mapper.is_constant Mapper.constant_value Mapper.map_gate Mapper.cone_at Mapper.replace Mapper.replaced Mapper.is_basic Mapper.leads_to Mapper.is_forced Mapper.forced Mapper.map_next Mapper.at_line Mapper.and_then Mapper.map_gates Mapper.wire_of Mapper.output_signal Mapper.map_outputs Mapper.used_settings Mapper.pruned Mapper.checked Mapper.start Mapper.finish Mapper.map_with Mapper.map_circuit Mapper.answer_with Mapper.mapper
gates = tt

-- from a network to a text
unfoldable pub writing : Unit {0}
unfolding Over.over Writing.digits_within Writing.digits Writing.signed_text Writing.bits_text Writing.wire_text Writing.limit_text Writing.terms_text Writing.weight_text Writing.node_text Writing.nodes_text Writing.output_text Writing.outputs_text Writing.network_text Case.buffer Case.mapped Case.outcome_of Case.expected
writing = tt

unfoldable pub computing : Unit {0}
unfolding reading tables cones gates writing
computing = tt

-- from a network's text to its statistics
unfoldable pub judging : Unit {0}
unfolding Form.below Form.signed NetworkText.net_line NetworkText.term NetworkText.lin_line NetworkText.boot_line NetworkText.network_line NetworkText.small NetworkText.good_terms NetworkText.all_different NetworkText.good_sum NetworkText.names NetworkText.all_inputs NetworkText.unknown NetworkText.any_bad_source NetworkText.started NetworkText.ending NetworkText.text_conditions NetworkText.settings_of NetworkText.fits_table NetworkText.is_bit NetworkText.no_bit NetworkText.safety_conditions NetworkText.admission_conditions NetworkText.with_network_line NetworkText.with_net NetworkText.network_ended NetworkText.no_network NetworkText.read_admitted Edition2.is_edition2 Edition2.read_either Admission.admission_of Admission.admission Network.below0 Network.above0 Network.least_sum Network.greatest_sum Network.least_of Network.greatest_of Network.is_input Network.is_linear Network.is_bootstrap Network.table_length Network.count Network.different Network.node_depth Network.depths_from Network.depths Network.largest_depth Network.node_centre Network.has_centre Network.stats
judging = tt

-- from a network to how often its outputs are 1 and its sums have each value
unfoldable pub counting : Unit {0}
unfolding Rotation.coefficient Rotation.rotated_by Rotation.rotated Composition.assignments Network.sum_from Network.node_value Network.with_value Network.node_values Network.wire_value Network.output_values Network.network_run SumReading.sum_of_bits Grades.too_many_inputs Grades.gives_one Grades.ones_at Grades.ones_of Grades.ones_on Grades.ones Grades.ones_answer Grades.times_given Grades.sum_span Grades.value_counts_of Grades.value_counts_at Grades.value_counts_on Grades.value_counts Grades.value_counts_answer
counting = tt

-- from a network's text to its text in the other edition
unfoldable pub converting : Unit {0}
unfolding Rotation.centre_of Edition2.net2_line Edition2.centre_digit Edition2.table Edition2.many_line Edition2.line2 Edition2.too_long Edition2.not_fitting Edition2.not_turning Edition2.other_centre Edition2.text_conditions2 Edition2.safety_conditions2 Edition2.conditions2 Edition2.with_line2 Edition2.read_admitted2 Regroup.same_group Regroup.behind Regroup.order_up_to Regroup.order Regroup.place_in Regroup.moved_term Regroup.moved_node Regroup.moved_wire Regroup.moved_output Regroup.reordered Regroup.regrouped Converter.join_table Converter.node_lines Converter.lines_of Converter.tables_text Converter.line2_text Converter.lines2_text Converter.network_text2 Converter.other_edition Converter.convert Converter.answer_text Converter.converter
converting = tt

-- from a network to a run with workers
unfoldable pub trying : Unit {0}
unfolding Workers.is_boot Workers.boots Workers.is_or_needs Workers.waits_for Workers.boots_in Workers.begun Workers.finished Workers.running Workers.ready Workers.taken Workers.starts_at Workers.log_before Workers.whole_log Workers.start_of Workers.simulated Workers.trial_limits Workers.trial_on Workers.trial Workers.trial_answer
trying = tt
