use Rattle.example_cluster.specs.Limits.{steps_of}
use Rattle.example_cluster.proofs.following.follow_one.Goals as goal

pub returns : goal.returns
returns c id s within =
    let steps = steps_of c.args.client c.args.server c.args.at c.follow-replies.result in
    c.cores_keep_to_limits.ensures.with_cancels c.args.scene.now c.in_ok-core.core c.follow-replies.new.core steps id s c.tags.ensures.some_hz within c.in_ok-core.ensures
    c.follow-replies.ensures
