use Rattle.std.proofs.Common.{refl}
use Rattle.arz_world.specs.declared.tape.Call.TheVariants.{Wrote}
use Rattle.arz_world.proofs.MemoryWorlds.{wrote_file, wrote_images, disk_call_is, disk_path, notes_disk, notes_path}
use Rattle.arz_world.proofs.memory_world.MemoryWorldWorld.write.Goals as goal

pub returns-clause-written : goal.returns-clause-written
returns-clause-written c = wrote_file c.args.self.now _ c.args.at c.args.bytes.now (c.requires refl) c.try_write.result c.try_write.new.self c.try_write.ensures.exact c.try_write.ensures.range

pub returns-clause-images : goal.returns-clause-images
returns-clause-images c = wrote_images c.args.self.now _ c.args.at c.args.bytes.now (c.requires refl) c.try_write.result c.try_write.new.self c.try_write.ensures.exact c.try_write.ensures.range

pub returns-clause-path : goal.returns-clause-path
returns-clause-path c = disk_path c.args.self.now _ c.try_write.ensures.range _ c.try_write.result c.try_write.new.self c.try_write.ensures.exact (λ v. notes_path c.args.self.now (Wrote c.args.at c.args.bytes.now))

pub returns-clause-call : goal.returns-clause-call
returns-clause-call c = disk_call_is c.args.self.now _ c.try_write.ensures.range _ c.try_write.result c.try_write.new.self c.try_write.ensures.exact (λ v. notes_disk c.args.self.now (Wrote c.args.at c.args.bytes.now) refl)
