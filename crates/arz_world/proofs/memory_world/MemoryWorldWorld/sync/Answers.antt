use Rattle.std.proofs.Common.{refl}
use Rattle.arz_world.specs.declared.tape.Call.TheVariants.{Synced}
use Rattle.arz_world.proofs.MemoryWorlds.{synced_stable, synced_images, disk_call_is, disk_images, disk_file, disk_path, notes_disk, notes_file, notes_path}
use Rattle.arz_world.proofs.memory_world.MemoryWorldWorld.sync.Goals as goal

pub returns-clause-stable : goal.returns-clause-stable
returns-clause-stable c = synced_stable c.args.self.now _ c.try_sync.result c.try_sync.new.self c.try_sync.ensures.exact

pub returns-clause-images : goal.returns-clause-images
returns-clause-images c = disk_images c.args.self.now _ c.try_sync.ensures.range _ c.try_sync.result c.try_sync.new.self c.try_sync.ensures.exact (λ v. synced_images c.args.self.now)

pub returns-clause-file : goal.returns-clause-file
returns-clause-file c = disk_file c.args.self.now _ c.try_sync.ensures.range _ c.try_sync.result c.try_sync.new.self c.try_sync.ensures.exact (λ v. notes_file c.args.self.now Synced)

pub returns-clause-path : goal.returns-clause-path
returns-clause-path c = disk_path c.args.self.now _ c.try_sync.ensures.range _ c.try_sync.result c.try_sync.new.self c.try_sync.ensures.exact (λ v. notes_path c.args.self.now Synced)

pub returns-clause-call : goal.returns-clause-call
returns-clause-call c = disk_call_is c.args.self.now _ c.try_sync.ensures.range _ c.try_sync.result c.try_sync.new.self c.try_sync.ensures.exact (λ v. notes_disk c.args.self.now Synced refl)
