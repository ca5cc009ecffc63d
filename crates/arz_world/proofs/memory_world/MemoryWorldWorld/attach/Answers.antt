use Rattle.std.proofs.Common.{refl}
use Rattle.arz_world.specs.declared.tape.Call.TheVariants.{Attached}
use Rattle.arz_world.proofs.MemoryWorlds.{attach_path, disk_call_is, disk_images, disk_file, notes_disk, notes_images, notes_file}
use Rattle.arz_world.proofs.memory_world.MemoryWorldWorld.attach.Goals as goal

pub returns-clause-path : goal.returns-clause-path
returns-clause-path c = λ told. attach_path c.args.self.now _ c.args.path.now c.try_attach.result c.try_attach.new.self c.try_attach.ensures.exact

pub returns-clause-images : goal.returns-clause-images
returns-clause-images c = disk_images c.args.self.now _ c.try_attach.ensures.range _ c.try_attach.result c.try_attach.new.self c.try_attach.ensures.exact (λ v. notes_images c.args.self.now (Attached c.args.path.now) (λ i left. left))

pub returns-clause-file : goal.returns-clause-file
returns-clause-file c = disk_file c.args.self.now _ c.try_attach.ensures.range _ c.try_attach.result c.try_attach.new.self c.try_attach.ensures.exact (λ v. notes_file c.args.self.now (Attached c.args.path.now))

pub returns-clause-call : goal.returns-clause-call
returns-clause-call c = disk_call_is c.args.self.now _ c.try_attach.ensures.range _ c.try_attach.result c.try_attach.new.self c.try_attach.ensures.exact (λ v. notes_disk c.args.self.now (Attached c.args.path.now) refl)
