use Rattle.std.proofs.Common.{◌∙◌, ◌≡◌, ◌<◌, arith, length, string_bytes, true}
use Rattle.std.specs.Prelude.{IsOk}
use Rattle.rt_tags.specs.Tags.{AlsoReady, IsName, is_ready, with_name}
use Rattle.rt_text.proofs.ReadyLaws.{at_ok, listed_from, named_here, ready_still, sure}
use Rattle.rt_text.proofs.preparing.list_tags.Goals as goal

pub unwrap-requires : goal.unwrap-requires
unwrap-requires c =
    let within : c.loop-name.name-index < length c.args.names.now = omega arith in
    let name = c.name-item.result in
    let bytes = c.deref.result.now in
    let named : IsName bytes = named_here IsName (λ w. string_bytes w) c.args.names.now c.loop-name.name-index name bytes within c.name-item.is c.deref.ensures c.requires.names in
    let ready : is_ready bytes c.loop-name.table ≡ true = named_here (λ n. is_ready n c.loop-name.table ≡ true) (λ w. string_bytes w) c.args.names.now c.loop-name.name-index name bytes within c.name-item.is c.deref.ensures c.loop-name.invariant.ready in
    sure bytes c.loop-name.table c.ensure.result c.ensure.ensures.fault c.ensure.ensures.bad_name c.ensure.ensures.memory named ready

pub loop-name-preserved : goal.loop-name-preserved
loop-name-preserved c =
    let within : c.loop-name.name-index < length c.args.names.now = omega arith in
    let name = c.name-item.result in
    let bytes = c.deref.result.now in
    let named : IsName bytes = named_here IsName (λ w. string_bytes w) c.args.names.now c.loop-name.name-index name bytes within c.name-item.is c.deref.ensures c.requires.names in
    let ready : is_ready bytes c.loop-name.table ≡ true = named_here (λ n. is_ready n c.loop-name.table ≡ true) (λ w. string_bytes w) c.args.names.now c.loop-name.name-index name bytes within c.name-item.is c.deref.ensures c.loop-name.invariant.ready in
    let ok : IsOk c.ensure.result = sure bytes c.loop-name.table c.ensure.result c.ensure.ensures.fault c.ensure.ensures.bad_name c.ensure.ensures.memory named ready in
    let listed : c.ensure.new.self.names ≡ with_name bytes c.loop-name.table.names = at_ok c.ensure.result ok c.ensure.ensures.names in
    let made : AlsoReady bytes c.loop-name.table c.ensure.new.self = at_ok c.ensure.result ok c.ensure.ensures.ready in
    record {
      names = listed_from (λ w. string_bytes w) c.args.names.now c.loop-name.name-index name bytes c.loop-name.table c.ensure.new.self within c.name-item.is c.deref.ensures listed ∙ c.loop-name.invariant.names;
      ready = ready_still (λ w. string_bytes w) c.args.names.now bytes c.loop-name.table c.ensure.new.self made c.loop-name.invariant.ready;
    }
