use Rattle.std.proofs.Common.{◌+◌, ◌<◌, ◌≤◌, ◌^◌, length, ◌∙◌, None, Some, arith}
use Rattle.bridge_ast.proofs.TrailLemmas.{trail_named, too_many, stood_at_item, stood_at_module}
use Rattle.bridge_ast.proofs.environment.Env.find_item.Goals as goal

pub returns-in_err-trail : goal.returns-in_err-trail
returns-in_err-trail c =
    let env = c.self.inside in
    let few : env.aliases + length c.as_slice-segments.result.now < 2 ^ 128 = omega arith in
    c.from_residual.ensures
    ∙ trail_named c.args.self.now env.modules env.scopes c.as_slice.result.now env.ends env.aliases
    c.args.in_module c.args.path.now.segments c.as_slice-segments.result.now None c.self.view_is c.as_slice.ensures
    c.self.invariant.known c.self.invariant.ended c.self.invariant.counted c.as_slice-segments.ensures c.requires few
    c.in_err-trail.ensures

pub returns-then-trail-most : goal.returns-then-trail-most
returns-then-trail-most c =
    let env = c.self.inside in
    let few : env.aliases + length c.as_slice-segments.result.now < 2 ^ 128 = omega arith in
    let over : env.aliases + length c.as_slice-segments.result.now < c.in_ok-trail.trail.steps = omega arith in
    too_many (env.aliases + length c.as_slice-segments.result.now) c.args.self.now c.in_ok-trail.trail over
    ∙ trail_named c.args.self.now env.modules env.scopes c.as_slice.result.now env.ends env.aliases
    c.args.in_module c.args.path.now.segments c.as_slice-segments.result.now
    (Some c.in_ok-trail.trail) c.self.view_is c.as_slice.ensures c.self.invariant.known c.self.invariant.ended
    c.self.invariant.counted c.as_slice-segments.ensures c.requires few c.in_ok-trail.ensures

pub returns-in-Item : goal.returns-in-Item
returns-in-Item c =
    let env = c.self.inside in
    let few : env.aliases + length c.as_slice-segments.result.now < 2 ^ 128 = omega arith in
    let enough : c.in_ok-trail.trail.steps ≤ env.aliases + length c.as_slice-segments.result.now = omega arith in
    stood_at_item (env.aliases + length c.as_slice-segments.result.now) c.args.self.now c.in_ok-trail.trail c.in-Item.place enough
    c.in-Item.is
    ∙ trail_named c.args.self.now env.modules env.scopes c.as_slice.result.now env.ends env.aliases
    c.args.in_module c.args.path.now.segments c.as_slice-segments.result.now
    (Some c.in_ok-trail.trail) c.self.view_is c.as_slice.ensures c.self.invariant.known c.self.invariant.ended
    c.self.invariant.counted c.as_slice-segments.ensures c.requires few c.in_ok-trail.ensures

pub returns-in-Module : goal.returns-in-Module
returns-in-Module c =
    let env = c.self.inside in
    let few : env.aliases + length c.as_slice-segments.result.now < 2 ^ 128 = omega arith in
    let enough : c.in_ok-trail.trail.steps ≤ env.aliases + length c.as_slice-segments.result.now = omega arith in
    stood_at_module (env.aliases + length c.as_slice-segments.result.now) c.args.self.now c.in_ok-trail.trail c.in-Module.field-0
    c.in-Module.field-1 enough c.in-Module.is
    ∙ trail_named c.args.self.now env.modules env.scopes c.as_slice.result.now env.ends env.aliases
    c.args.in_module c.args.path.now.segments c.as_slice-segments.result.now
    (Some c.in_ok-trail.trail) c.self.view_is c.as_slice.ensures c.self.invariant.known c.self.invariant.ended
    c.self.invariant.counted c.as_slice-segments.ensures c.requires few c.in_ok-trail.ensures
