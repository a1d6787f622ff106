use Rattle.std.proofs.Common.{take, sym, refl, arith, ◌≡◌, length, string_bytes, inl}
use Rattle.dmc_scene.specs.declared.fault.SceneFault.TheVariants as scene
use Rattle.dmc_text.specs.Watching.{stream_of}
use Rattle.dmc_tool.specs.Scenes.{max_bytes}
use Rattle.dmc_tool.proofs.SimLemmas.{read_front, refused_as}
use Rattle.dmc_tool.proofs.NoteLemmas.{no_scene_as}
use Rattle.dmc_tool.proofs.RemarkLemmas.{remarked, silent, silent_as}
use Rattle.dmc_tool.proofs.scenes.scene_of.Goals as goal

pub returns-in_err-remark-clause-bytes : goal.returns-in_err-remark-clause-bytes
returns-in_err-remark-clause-bytes g c =
    let of = g.R.Read.remaining in
    let items = c.read_text.new.buffer.items in
    let size : length items ≡ max_bytes = omega (arith, c.read_text.new.buffer.ok.0, c.read_text.ensures.len, c.in_ok-text.ensures.len) in
    let read = read_front (of (stream_of c.args.reader.now)) (of (stream_of c.read_text.new.reader)) items c.in-Ok.len (omega (arith, c.in-Ok.ensures.within, c.in_ok-text.ensures.len)) size c.in-Ok.ensures.bytes
    (λ h. c.in-Ok.ensures.end (omega (arith, h, c.in_ok-text.ensures.len))) in
    refused_as (of (stream_of c.args.reader.now)) (of (stream_of c.read_text.new.reader)) (take c.in-Ok.len items) scene.Memory c.from_residual-in_err-remark.result read
    (λ other. absurd (other refl)) c.from_residual-in_err-remark.ensures.1

pub returns-in_err-read_scene-clause-bytes : goal.returns-in_err-read_scene-clause-bytes
returns-in_err-read_scene-clause-bytes g c =
    let of = g.R.Read.remaining in
    let items = c.read_text.new.buffer.items in
    let size : length items ≡ max_bytes = omega (arith, c.read_text.new.buffer.ok.0, c.read_text.ensures.len, c.in_ok-text.ensures.len) in
    let read = read_front (of (stream_of c.args.reader.now)) (of (stream_of c.read_text.new.reader)) items c.in-Ok.len (omega (arith, c.in-Ok.ensures.within, c.in_ok-text.ensures.len)) size c.in-Ok.ensures.bytes
    (λ h. c.in-Ok.ensures.end (omega (arith, h, c.in_ok-text.ensures.len))) in
    refused_as (of (stream_of c.args.reader.now)) (of (stream_of c.read_text.new.reader)) (take c.in-Ok.len items) c.in_err-read_scene.field-0.0 c.from_residual-in_err-read_scene.result read
    (rw c.deref.ensures.value at c.in_err-read_scene.ensures.read) c.from_residual-in_err-read_scene.ensures.1

pub returns-clause-bytes : goal.returns-clause-bytes
returns-clause-bytes g c =
    let of = g.R.Read.remaining in
    let items = c.read_text.new.buffer.items in
    let size : length items ≡ max_bytes = omega (arith, c.read_text.new.buffer.ok.0, c.read_text.ensures.len, c.in_ok-text.ensures.len) in
    let read = read_front (of (stream_of c.args.reader.now)) (of (stream_of c.read_text.new.reader)) items c.in-Ok.len (omega (arith, c.in-Ok.ensures.within, c.in_ok-text.ensures.len)) size c.in-Ok.ensures.bytes
    (λ h. c.in-Ok.ensures.end (omega (arith, h, c.in_ok-text.ensures.len))) in
    let is = rw c.deref.ensures.value at c.in_ok-read_scene.ensures.read in
    (take c.in-Ok.len items, read, sym (is (λ e. cc)))

pub returns-in_err-remark-clause-note : goal.returns-in_err-remark-clause-note
returns-in_err-remark-clause-note g c =
    no_scene_as c.args.reader.now c.read_text.new.reader scene.Memory c.from_residual-in_err-remark.result c.in-Ok.ensures.note c.from_residual-in_err-remark.ensures.1

pub returns-in_err-read_scene-clause-note : goal.returns-in_err-read_scene-clause-note
returns-in_err-read_scene-clause-note g c =
    no_scene_as c.args.reader.now c.read_text.new.reader c.in_err-read_scene.field-0.0 c.from_residual-in_err-read_scene.result c.in-Ok.ensures.note c.from_residual-in_err-read_scene.ensures.1

-- ---- what is remarked

pub returns-in_err-text-clause-remarks : goal.returns-in_err-text-clause-remarks
returns-in_err-text-clause-remarks g c =
    silent_as (g.R.Read.remaining (stream_of c.args.reader.now)) (g.R.Read.remaining (stream_of c.args.reader.now)) (string_bytes c.args.remarks.now) c.args.is_explained c.from_residual.result c.from_residual.ensures.1

pub returns-in_default-clause-remarks : goal.returns-in_default-clause-remarks
returns-in_default-clause-remarks g c =
    silent (g.R.Read.remaining (stream_of c.args.reader.now)) (g.R.Read.remaining (stream_of c.read_text.new.reader)) (string_bytes c.args.remarks.now) c.args.is_explained _ (inl refl)

pub returns-in_err-remark-clause-remarks : goal.returns-in_err-remark-clause-remarks
returns-in_err-remark-clause-remarks g c =
    rw c.in_err-remark.ensures.err
    (silent_as (g.R.Read.remaining (stream_of c.args.reader.now)) (g.R.Read.remaining (stream_of c.read_text.new.reader)) (string_bytes c.args.remarks.now) c.args.is_explained
    c.from_residual-in_err-remark.result c.from_residual-in_err-remark.ensures.1)

pub returns-in_err-read_scene-clause-remarks : goal.returns-in_err-read_scene-clause-remarks
returns-in_err-read_scene-clause-remarks g c =
    let of = g.R.Read.remaining in
    let items = c.read_text.new.buffer.items in
    let size : length items ≡ max_bytes = omega (arith, c.read_text.new.buffer.ok.0, c.read_text.ensures.len, c.in_ok-text.ensures.len) in
    let read = read_front (of (stream_of c.args.reader.now)) (of (stream_of c.read_text.new.reader)) items c.in-Ok.len (omega (arith, c.in-Ok.ensures.within, c.in_ok-text.ensures.len)) size c.in-Ok.ensures.bytes
    (λ h. c.in-Ok.ensures.end (omega (arith, h, c.in_ok-text.ensures.len))) in
    remarked (of (stream_of c.args.reader.now)) (of (stream_of c.read_text.new.reader)) (string_bytes c.args.remarks.now) (string_bytes c.remark.new.remarks) c.args.is_explained (take c.in-Ok.len items)
    c.from_residual-in_err-read_scene.result read (rw c.deref.ensures.value at c.in_ok-remark.ensures.ok)

pub returns-clause-remarks : goal.returns-clause-remarks
returns-clause-remarks g c =
    let of = g.R.Read.remaining in
    let items = c.read_text.new.buffer.items in
    let size : length items ≡ max_bytes = omega (arith, c.read_text.new.buffer.ok.0, c.read_text.ensures.len, c.in_ok-text.ensures.len) in
    let read = read_front (of (stream_of c.args.reader.now)) (of (stream_of c.read_text.new.reader)) items c.in-Ok.len (omega (arith, c.in-Ok.ensures.within, c.in_ok-text.ensures.len)) size c.in-Ok.ensures.bytes
    (λ h. c.in-Ok.ensures.end (omega (arith, h, c.in_ok-text.ensures.len))) in
    remarked (of (stream_of c.args.reader.now)) (of (stream_of c.read_text.new.reader)) (string_bytes c.args.remarks.now) (string_bytes c.remark.new.remarks) c.args.is_explained (take c.in-Ok.len items)
    _ read (rw c.deref.ensures.value at c.in_ok-remark.ensures.ok)
