pub use Rattle.frang_world.specs.States
