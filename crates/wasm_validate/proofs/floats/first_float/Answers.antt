use Rattle.std.proofs.Common.{refl}
use Rattle.wasm_types.specs.Subset.{HasNoFloatIn}
use Rattle.wasm_validate.specs.First.{float_order}
use Rattle.wasm_validate.proofs.PartLemmas.{float_at, float_apart, none_yet, numbered, past_numbered, first_numbered}
use Rattle.wasm_validate.proofs.FloatLemmas.{holds_each_float}
use Rattle.wasm_validate.proofs.floats.first_float.Goals as goal

pub returns-in-Some-float_global : goal.returns-in-Some-float_global
returns-in-Some-float_global c =
    let P = HasNoFloatIn c.args.m.now in
    let at_0 = none_yet P float_order in
    let at_1 = past_numbered P float_order 0 (float_at 0) (numbered float_order float_at 0 float_apart (λ k. refl) (λ k. refl)) at_0 c.in_default.ensures in
    let at_2 = past_numbered P float_order 1 (float_at 1) (numbered float_order float_at 1 float_apart (λ k. refl) (λ k. refl)) at_1 c.in_default-float_import.ensures in
    first_numbered P float_order 2 (float_at 2) c.in-Some-float_global.at (numbered float_order float_at 2 float_apart (λ k. refl) (λ k. refl)) at_2 c.in-Some-float_global.ensures

pub returns-in-Some-float_elem : goal.returns-in-Some-float_elem
returns-in-Some-float_elem c =
    let P = HasNoFloatIn c.args.m.now in
    let at_0 = none_yet P float_order in
    let at_1 = past_numbered P float_order 0 (float_at 0) (numbered float_order float_at 0 float_apart (λ k. refl) (λ k. refl)) at_0 c.in_default.ensures in
    let at_2 = past_numbered P float_order 1 (float_at 1) (numbered float_order float_at 1 float_apart (λ k. refl) (λ k. refl)) at_1 c.in_default-float_import.ensures in
    let at_3 = past_numbered P float_order 2 (float_at 2) (numbered float_order float_at 2 float_apart (λ k. refl) (λ k. refl)) at_2 c.in_default-float_global.ensures in
    first_numbered P float_order 3 (float_at 3) c.in-Some-float_elem.at (numbered float_order float_at 3 float_apart (λ k. refl) (λ k. refl)) at_3 c.in-Some-float_elem.ensures

pub returns-in-Some-float_func : goal.returns-in-Some-float_func
returns-in-Some-float_func c =
    let P = HasNoFloatIn c.args.m.now in
    let at_0 = none_yet P float_order in
    let at_1 = past_numbered P float_order 0 (float_at 0) (numbered float_order float_at 0 float_apart (λ k. refl) (λ k. refl)) at_0 c.in_default.ensures in
    let at_2 = past_numbered P float_order 1 (float_at 1) (numbered float_order float_at 1 float_apart (λ k. refl) (λ k. refl)) at_1 c.in_default-float_import.ensures in
    let at_3 = past_numbered P float_order 2 (float_at 2) (numbered float_order float_at 2 float_apart (λ k. refl) (λ k. refl)) at_2 c.in_default-float_global.ensures in
    let at_4 = past_numbered P float_order 3 (float_at 3) (numbered float_order float_at 3 float_apart (λ k. refl) (λ k. refl)) at_3 c.in_default-float_elem.ensures in
    first_numbered P float_order 4 (float_at 4) c.in-Some-float_func.at (numbered float_order float_at 4 float_apart (λ k. refl) (λ k. refl)) at_4 c.in-Some-float_func.ensures

pub returns-in-Some-float_segment : goal.returns-in-Some-float_segment
returns-in-Some-float_segment c =
    let P = HasNoFloatIn c.args.m.now in
    let at_0 = none_yet P float_order in
    let at_1 = past_numbered P float_order 0 (float_at 0) (numbered float_order float_at 0 float_apart (λ k. refl) (λ k. refl)) at_0 c.in_default.ensures in
    let at_2 = past_numbered P float_order 1 (float_at 1) (numbered float_order float_at 1 float_apart (λ k. refl) (λ k. refl)) at_1 c.in_default-float_import.ensures in
    let at_3 = past_numbered P float_order 2 (float_at 2) (numbered float_order float_at 2 float_apart (λ k. refl) (λ k. refl)) at_2 c.in_default-float_global.ensures in
    let at_4 = past_numbered P float_order 3 (float_at 3) (numbered float_order float_at 3 float_apart (λ k. refl) (λ k. refl)) at_3 c.in_default-float_elem.ensures in
    let at_5 = past_numbered P float_order 4 (float_at 4) (numbered float_order float_at 4 float_apart (λ k. refl) (λ k. refl)) at_4 c.in_default-float_func.ensures in
    first_numbered P float_order 5 (float_at 5) c.in-Some-float_segment.at (numbered float_order float_at 5 float_apart (λ k. refl) (λ k. refl)) at_5 c.in-Some-float_segment.ensures

pub returns : goal.returns
returns c =
    let P = HasNoFloatIn c.args.m.now in
    let at_0 = none_yet P float_order in
    let at_1 = past_numbered P float_order 0 (float_at 0) (numbered float_order float_at 0 float_apart (λ k. refl) (λ k. refl)) at_0 c.in_default.ensures in
    let at_2 = past_numbered P float_order 1 (float_at 1) (numbered float_order float_at 1 float_apart (λ k. refl) (λ k. refl)) at_1 c.in_default-float_import.ensures in
    let at_3 = past_numbered P float_order 2 (float_at 2) (numbered float_order float_at 2 float_apart (λ k. refl) (λ k. refl)) at_2 c.in_default-float_global.ensures in
    let at_4 = past_numbered P float_order 3 (float_at 3) (numbered float_order float_at 3 float_apart (λ k. refl) (λ k. refl)) at_3 c.in_default-float_elem.ensures in
    let at_5 = past_numbered P float_order 4 (float_at 4) (numbered float_order float_at 4 float_apart (λ k. refl) (λ k. refl)) at_4 c.in_default-float_func.ensures in
    let at_6 = past_numbered P float_order 5 (float_at 5) (numbered float_order float_at 5 float_apart (λ k. refl) (λ k. refl)) at_5 c.in_default-float_segment.ensures in
    holds_each_float c.args.m.now at_6
